-- How the fields of values are read, what is called on them, and the steps of comparisons: what a function does with each field that
-- takes part.
use Rattle.std.specs.Prelude.{ℕ, ◌≡◌, Bool, true, false, List, [], ◌∷◌, ◌++◌, None}
use Rattle.std.specs.List.{AllZip}
use Rattle.std.specs.declared.cmp.Ordering.{Ordering}
use Rattle.std.specs.declared.cmp.Ordering.TheVariants.{Less, Greater}
use Rattle.educe_tokens.specs.declared.word.Word.{Word}
use Rattle.educe_tokens.specs.Appends.{no_place}
use Rattle.educe_syntax.specs.Ident.{Ident}
use Rattle.educe_syntax.specs.ExprPath.{ExprPath}
use Rattle.educe_syntax.specs.Field.{Field}
use Rattle.educe_body_forms.specs.declared.comparison.Comparison.{Comparison}
use Rattle.educe_body_forms.specs.declared.comparison.Comparison.TheVariants.{PartialEq, PartialOrd, Ord}
use Rattle.educe_body_values.specs.declared.callee.BuiltIn.{BuiltIn}
use Rattle.educe_body_forms.specs.declared.form.Form.{Form, Local, Reference, BracedCopy, Call, Not, SomeOf, IfReturn, MatchOrdering}
use Rattle.educe_body_values.specs.BuiltIn.{IsBuiltIn}
use Rattle.educe_body_forms.specs.Keys.{key_of, binding_key}
use Rattle.educe_settings.specs.Settings.{Kept, How, plainly, by_method, by_order}
use Rattle.educe_meaning.specs.Comparing.{comparison}

-- ---- how a field is read

-- `& base . key`, or with true `& { base . key }`, which reads a copy.
abbrev pub reference_form : Bool → Ident → Word → Form
reference_form false base key = Reference base key
reference_form true base key = BracedCopy base key

-- The reference to the field at a place, or with true to a copy of it: the key is its name, or its place where it has none.
pub record IsReference (copied : Bool) (base : List ℕ) (place : ℕ) (field : Field) (x : Form) : Type 0 where
  pub base_name : Ident
  pub key : Word
  pub is : x ≡ reference_form copied base_name key
  pub base_is : base_name.text ≡ base
  pub nowhere : base_name.span ≡ no_place
  pub key_is : key.text ≡ key_of place field

-- The local variable of the field at a place: its name is the prefix, and behind it the field's key without `r#`; it has the span
-- 0 to 0.
pub record IsVariable (prefix : List ℕ) (place : ℕ) (field : Field) (x : Form) : Type 0 where
  pub name : Ident
  pub is : x ≡ Local name
  pub name_is : name.text ≡ prefix ++ binding_key place field
  pub nowhere : name.span ≡ no_place

-- A field is read of the value of this name, with true by a copy; or as the local variable behind this prefix.
pub data Reading : Type 0 where
  of_base : Bool → List ℕ → Reading
  bound : List ℕ → Reading

-- The form reads the field in this way.
abbrev pub IsRead : Reading → Kept → Form → Type 0
IsRead (of_base copied base) kept x = IsReference copied base kept.place kept.field x
IsRead (bound prefix) kept x = IsVariable prefix kept.place kept.field x

-- ---- steps

-- What a step tests: `eq` negates what a method answers; `partial_cmp` takes the order of a method of `Ord` in `Some`.
abbrev pub tested : Comparison → How → Form → Form
tested PartialEq plainly call = call
tested PartialEq (by_method path) call = Not call
tested PartialEq (by_order path) call = Not call
tested PartialOrd plainly call = call
tested PartialOrd (by_method path) call = call
tested PartialOrd (by_order path) call = SomeOf call
tested Ord how call = call

-- What an order returns where the first value is above the second; with true, for a reversed field, the opposite.
abbrev pub if_greater : Bool → Ordering
if_greater false = Greater
if_greater true = Less

-- What an order returns where the first value is below the second; with true, for a reversed field, the opposite.
abbrev pub if_less : Bool → Ordering
if_less false = Less
if_less true = Greater

-- The step for this test: `eq` returns false where the two differ; an order goes on where it is Equal, and else returns it, or with
-- true, for a reversed field, the opposite one.
abbrev pub step_of : Comparison → Bool → Form → Form
step_of PartialEq reverse test = IfReturn test
step_of PartialOrd reverse test = MatchOrdering test true None (if_greater reverse) (if_less reverse)
step_of Ord reverse test = MatchOrdering test false None (if_greater reverse) (if_less reverse)

-- The path that is called: that of this function of the core library, or the method's as it was read.
abbrev pub IsCalled : BuiltIn → How → ExprPath → Type 0
IsCalled function plainly path = IsBuiltIn function path
IsCalled function (by_method own) path = path ≡ own
IsCalled function (by_order own) path = path ≡ own

-- A call on this field of both values and no other: `path ( & self . key , & other . key )`, or on the field's two variables.
pub record IsComparison (which : Comparison) (own others : Reading) (kept : Kept) (x : Form) : Type 0 where
  pub path : ExprPath
  pub first : Form
  pub second : Form
  pub is : x ≡ Call path (first ∷ second ∷ [])
  pub path_is : IsCalled (comparison which) kept.how path
  pub first_is : IsRead own kept first
  pub second_is : IsRead others kept second

-- The step of a trait on a field: what it does with that call.
pub record IsStep (which : Comparison) (own others : Reading) (kept : Kept) (x : Form) : Type 0 where
  pub compares : Form
  pub is : x ≡ step_of which kept.reverse (tested which kept.how compares)
  pub comparison_is : IsComparison which own others kept compares

-- One step of a comparison for each of these fields, in their order.
abbrev pub AreSteps : Comparison → Reading → Reading → List Kept → List Form → Type 0
AreSteps which own others ordered steps = AllZip (λ k step. IsStep which own others k step) ordered steps

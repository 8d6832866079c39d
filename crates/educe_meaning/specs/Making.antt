-- What `default` means, and the forms of its body.
use Rattle.std.specs.Prelude.{ℕ, ◌^◌, nat_lt, ◌≡◌, Bool, false, List, [], ◌∷◌, ◌++◌, map, Option, Some, None, if◌then◌else◌, unwrap_or, codes}
use Rattle.std.specs.Cmp.Lexicographic.{pointwise}
use Rattle.std.specs.List.{AllZip}
use Rattle.std.specs.Option.{option_map}
use Rattle.std.specs.Str.{bytes_eq}
use Rattle.educe_tokens.specs.Lexes.{Lexeme}
use Rattle.educe_tokens.specs.Quote.{quoted}
use Rattle.educe_tokens.specs.Text.{text_of}
use Rattle.educe_tokens.specs.WrittenLexemes.{written_lexemes}
use Rattle.educe_tokens.specs.declared.written.Written.{Written}
use Rattle.educe_syntax.specs.DeriveInput.{DeriveInput}
use Rattle.educe_syntax.specs.Expr.{Expr}
use Rattle.educe_syntax.specs.Field.{Field}
use Rattle.educe_syntax.specs.FieldShape.{FieldShape}
use Rattle.educe_syntax.specs.Ident.{Ident}
use Rattle.educe_syntax.specs.Ty.{Ty}
use Rattle.educe_attrs.specs.Adjusted.{adjusted}
use Rattle.educe_body_values.specs.declared.answers.Answer.{Answer}
use Rattle.educe_body_values.specs.declared.answers.Answer.TheVariants as answer
use Rattle.educe_body_values.specs.declared.answers.Answers.{Answers}
use Rattle.educe_body_forms.specs.declared.body.Body.{Body}
use Rattle.educe_body_values.specs.declared.callee.Callee.{Callee}
use Rattle.educe_body_values.specs.declared.callee.Callee.TheVariants as callee
use Rattle.educe_body_values.specs.declared.outcome.Outcome.{Outcome}
use Rattle.educe_body_values.specs.declared.outcome.Outcome.TheVariants.{Made, Whole}
use Rattle.educe_body_forms.specs.declared.form.Form.{Form, Construct, Pasted}
use Rattle.educe_body_forms.specs.declared.form.Init.{Init}
use Rattle.educe_body_values.specs.declared.value.FieldValue.{FieldValue}
use Rattle.educe_body_values.specs.declared.value.Value.{Value}
use Rattle.educe_body_values.specs.Answering.{answer_of}
use Rattle.educe_body_values.specs.Cases.{case_at}
use Rattle.educe_body_values.specs.Meaning.{Scene, value}
use Rattle.educe_body_values.specs.Types.{type_spellings, type_place, default_call, default_of}
use Rattle.educe_meaning.specs.Arms.{IsKey}
use Rattle.educe_settings.specs.Cases.{fields_in}
use Rattle.educe_settings.specs.Defaults.{Choice, by_value, of_struct, of_variant, choice_of, field_value, type_values}

-- ---- what is called

-- The spellings of tokens.
abbrev pub spelled : List Lexeme → List (List ℕ)
spelled tokens = map (λ (x : Lexeme). x.spelling) tokens

-- The text of tokens, as what is called.
abbrev pub text_called : List Lexeme → Option Callee
text_called tokens = Some (callee.Written (text_of tokens))

-- `Default::default` of the type of a field.
abbrev pub type_called : DeriveInput → Field → Option Callee
type_called definition field = default_of (type_place definition (type_spellings field))

-- What tokens call for a field: `Default::default` of its type where they are spelled so, else their text.
abbrev pub called_by : DeriveInput → Field → List Lexeme → Option Callee
called_by definition field tokens =
    if pointwise bytes_eq (spelled tokens) (default_call (type_spellings field)) then type_called definition field else text_called tokens

-- What is called for a field: `Default::default` of its type, or what the value calls that its attributes say, as it is written for
-- that type.
abbrev pub called_for : DeriveInput → Field → Option Expr → Option Callee
called_for definition field None = type_called definition field
called_for definition field (Some said) = called_by definition field (adjusted said.written (Some field.ty))

-- ---- the meaning

-- The value that is made, if an answer is one.
abbrev pub value_made : Option Answer → Option FieldValue
value_made (Some (answer.Made x)) = Some x
value_made found = None

-- The value that a call with no arguments makes, by the table.
abbrev pub made_by : Answers → Option Callee → Option FieldValue
made_by table None = None
made_by table (Some called) = value_made (answer_of table called None None)

-- A value and more of them, where all are made.
abbrev pub made_with : Option FieldValue → Option (List FieldValue) → Option (List FieldValue)
made_with None values = None
made_with (Some x) None = None
made_with (Some x) (Some values) = Some (x ∷ values)

-- The values of fields in written order, where each call makes one.
abbrev pub fields_made : Answers → DeriveInput → List Field → Option (List FieldValue)
fields_made table definition [] = Some []
fields_made table definition (f ∷ fs) = made_with (made_by table (called_for definition f (field_value definition f))) (fields_made table definition fs)

-- The value of the variant at a place and these fields; of a struct it is 0.
abbrev pub value_of : ℕ → Option (List FieldValue) → Option Outcome
value_of place None = None
value_of place (Some values) = Some (Made (record { variant = place; fields = values }))

-- The value of the variant at a place and these fields, where the place is below 2^32, as that of each value is.
abbrev pub placed_value : ℕ → Option (List FieldValue) → Option Outcome
placed_value place values = if nat_lt place (2 ^ 32) then value_of place values else None

-- The value of a case at its place, where each call for its fields makes one.
abbrev pub case_made : Answers → DeriveInput → Option (ℕ × List Field) → Option Outcome
case_made table definition None = None
case_made table definition (Some case) = value_of case.0 (fields_made table definition case.1)

-- The outcome of a value that a call makes as a whole.
abbrev pub whole_of : Option FieldValue → Option Outcome
whole_of None = None
whole_of (Some x) = Some (Whole x)

-- What a choice makes: what the type's own value is; or a struct or a variant, each field of which has the value that its attributes
-- say, or the default one of its type.
abbrev pub outcome_by : Answers → DeriveInput → Option Choice → Option Outcome
outcome_by table definition None = None
outcome_by table definition (Some (by_value said)) = whole_of (made_by table (text_called (adjusted said.written None)))
outcome_by table definition (Some (of_struct shape)) = case_made table definition (Some (0, shape.fields))
outcome_by table definition (Some (of_variant place variant)) = case_made table definition (case_at place (fields_in variant))

-- What `default` means by a table, where each of its calls makes a value.
abbrev pub default_outcome : Answers → DeriveInput → Option Outcome
default_outcome table definition = outcome_by table definition (choice_of definition)

-- The values of `self` and of the parameter, whichever they are, and the table.
abbrev pub scene_without : DeriveInput → Option Value → Option Value → Answers → Scene
scene_without definition this other table = record { definition = definition; this = this; other = other; answers = table; field = None }

-- Over each table by which each of its calls makes a value, the function evaluates to what `default` means.
abbrev pub MakesDefault : DeriveInput → Body → Type 0
MakesDefault definition body =
    (table : Answers) (this other : Option Value) (outcome : Outcome) → default_outcome table definition ≡ Some outcome
    → value body (scene_without definition this other table) ≡ outcome

-- ---- the forms

-- `< T as :: core :: default :: Default > :: default ( )`.
abbrev pub default_tokens : Ty → List Lexeme
default_tokens ty = quoted (codes "<") ++ (written_lexemes ty.written ++ quoted (codes "as :: core :: default :: Default > :: default ( )"))

-- The tokens for a field: `Default` of its type, or the value that its attributes say, as it is written for that type.
abbrev pub field_tokens : Field → Option Expr → List Lexeme
field_tokens field None = default_tokens field.ty
field_tokens field (Some said) = adjusted said.written (Some field.ty)

-- The form has these tokens.
pub record IsPasted (tokens : List Lexeme) (x : Form) : Type 0 where
  pub text : Written
  pub is : x ≡ Pasted text
  pub tokens_are : written_lexemes text ≡ tokens

-- The initializer of a field: its key, as it is written, and its tokens.
pub record IsInit (definition : DeriveInput) (field : Field) (init : Init) : Type 0 where
  pub key_is : IsKey field.ident init.key
  pub value_is : IsPasted (field_tokens field (field_value definition field)) init.value

-- `Self`, or with a name that variant of it, with one initializer for each field, in written order.
pub record IsConstruct (definition : DeriveInput) (name : Option (List ℕ)) (shape : FieldShape) (x : Form) : Type 0 where
  pub variant : Option Ident
  pub variant_is : option_map (λ (ident : Ident). ident.text) variant ≡ name
  pub inits : List Init
  pub is : x ≡ Construct variant shape.form inits
  pub inits_are : AllZip (IsInit definition) shape.fields inits

-- The form makes what is chosen: the tokens of the type's own value, or a struct or a variant with its initializers.
abbrev pub IsMaking : DeriveInput → Choice → Form → Type 0
IsMaking definition (by_value said) x = IsPasted (adjusted said.written None) x
IsMaking definition (of_struct shape) x = IsConstruct definition None shape x
IsMaking definition (of_variant place variant) x = IsConstruct definition (Some variant.ident.text) variant.fields x

-- The body has no parameter, and its block is one form.
pub record HasOneForm (IsRight : Form → Type 0) (body : Body) : Type 0 where
  pub params_are : body.params ≡ []
  pub form : Form
  pub block_is : body.block ≡ form ∷ []
  pub form_is : IsRight form

-- The body of `default`: the form that makes what is chosen.
pub record IsDefaultBody (definition : DeriveInput) (body : Body) : Type 0 where
  pub choice : Choice
  pub choice_is : choice_of definition ≡ Some choice
  pub body_has : HasOneForm (IsMaking definition choice) body

-- ---- `new`

-- Whether the type has a function `new`.
abbrev pub has_new : DeriveInput → Bool
has_new definition = unwrap_or (type_values definition).new false

-- `< Self as :: core :: default :: Default > :: default ( )`.
abbrev pub self_tokens : List Lexeme
self_tokens = quoted (codes "< Self as :: core :: default :: Default > :: default ( )")

-- The body of `new`: `< Self as :: core :: default :: Default > :: default ( )`.
abbrev pub IsNewBody : Body → Type 0
IsNewBody body = HasOneForm (IsPasted self_tokens) body

-- Over each table by which that call makes a value, the function evaluates to this value.
abbrev pub MakesNew : DeriveInput → Body → Type 0
MakesNew definition body =
    (table : Answers) (this other : Option Value) (outcome : Outcome) → whole_of (made_by table (text_called self_tokens)) ≡ Some outcome
    → value body (scene_without definition this other table) ≡ outcome

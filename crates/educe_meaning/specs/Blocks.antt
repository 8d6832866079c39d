-- What the block of a derived trait holds.
use Rattle.std.specs.Prelude.{ℕ, ◌≡◌, ◌<◌, Bool, true, false, List, [], ◌∷◌, ◌++◌, map, Option, Some, None, codes}
use Rattle.std.specs.List.{AllByRecursion}
use Rattle.educe_tokens.specs.declared.word.Word.{Word}
use Rattle.educe_tokens.specs.WrittenLexemes.{written_lexemes}
use Rattle.educe_syntax.specs.DeriveInput.{DeriveInput}
use Rattle.educe_syntax.specs.Field.{Field}
use Rattle.educe_syntax.specs.Generics.{Generics}
use Rattle.educe_syntax.specs.Shape.{Shape}
use Rattle.educe_syntax.specs.Shape.TheVariants.{Struct, Enum}
use Rattle.educe_syntax.specs.Ty.{Ty}
use Rattle.educe_syntax.specs.Variant.{Variant}
use Rattle.educe_bound.specs.declared.bound.Bound.{Bound}
use Rattle.educe_bound.specs.declared.bound.Bound.TheVariants.{Disabled, Auto, All, Custom}
use Rattle.educe_bound_traits.specs.declared.traits.Trait.{Trait}
use Rattle.educe_bound.specs.Predicates.{keys_of}
use Rattle.educe_bound_traits.specs.declared.traits.Trait.TheVariants as trait
use Rattle.educe_attrs.specs.Lints.{lints, impl_attributes}
use Rattle.educe_body_forms.specs.declared.comparison.Comparison.{Comparison}
use Rattle.educe_body_forms.specs.declared.comparison.Comparison.TheVariants.{PartialEq, PartialOrd, Ord}
use Rattle.educe_body_forms.specs.declared.form.Form.{Form}
use Rattle.educe_body_forms.specs.declared.form.Form as form
use Rattle.educe_body_forms.specs.declared.body.Body.{Body}
use Rattle.educe_body_items.specs.declared.items.CheckItem.{CheckItem}
use Rattle.educe_body_items.specs.declared.items.Function.{Function}
use Rattle.educe_body_items.specs.declared.items.ImplItem.{ImplItem}
use Rattle.educe_body_items.specs.declared.items.Item.{Item}
use Rattle.educe_body_items.specs.declared.items.MarkerItem.{MarkerItem}
use Rattle.educe_body_items.specs.declared.items.Item.TheVariants.{Impl, New, FieldCheck, Marker}
use Rattle.educe_body_values.specs.declared.answers.Answers.{Answers}
use Rattle.educe_body_values.specs.declared.outcome.Outcome.{Outcome}
use Rattle.educe_body_values.specs.declared.outcome.Outcome.TheVariants.{Parts}
use Rattle.educe_body_values.specs.declared.outcome.Outcome.TheVariants as outcome
use Rattle.educe_body_values.specs.declared.value.Value.{Value}
use Rattle.educe_body.specs.Chosen.{underscored}
use Rattle.educe_body_values.specs.Meaning.{Scene, value}
use Rattle.educe_body.specs.Words.{HasWord}
use Rattle.educe_meaning.specs.Arms.{Names, AreNames, IsEnumBlock}
use Rattle.educe_meaning.specs.Checks.{IsCheck}
use Rattle.educe_meaning.specs.CloneBodies.{CloneNames, AreCloneNames, IsCloneBody, IsFromBody}
use Rattle.educe_meaning.specs.Cloning.{clone_of, clone_from_of}
use Rattle.educe_meaning.specs.Comparisons.{trait_of}
use Rattle.educe_settings.specs.Copying.{copies_whole}
use Rattle.educe_meaning.specs.HashBodies.{IsHashBody}
use Rattle.educe_meaning.specs.Hashing.{hash_of, HashCovers}
use Rattle.educe_meaning.specs.Headers.{IsHeader, AreTight}
use Rattle.educe_settings.specs.Packed.{AreCopied}
use Rattle.educe_settings.specs.Listed.{listed_in_order}
use Rattle.educe_meaning.specs.Markers.{AreMarkers}
use Rattle.educe_meaning.specs.Making.{HasOneForm, IsDefaultBody, MakesDefault, has_new, IsNewBody, MakesNew}
use Rattle.educe_settings.specs.Settings.{Kept, kept_fields, all_kept, bound_for}
use Rattle.educe_meaning.specs.Showing.{shape_of}
use Rattle.educe_settings.specs.Shown.{all_shown}
use Rattle.educe_meaning.specs.ShownBodies.{DebugNames, AreDebugNames, marker_names, IsDebugBody}
use Rattle.educe_settings.specs.Order.{IsInOrder}
use Rattle.educe_meaning.specs.Steps.{Reading, of_base, AreSteps}
use Rattle.educe_settings.specs.Types.{checked_types}
use Rattle.educe_meaning.specs.Comparing.{neutral, HasShape, Covers, meaning}

-- The name is chosen for the plain one: it is the plain name behind the fewest `_` that make it no word of the input.
pub record IsParameter (definition : DeriveInput) (plain name : List ℕ) : Type 0 where
  pub count : ℕ
  pub is : name ≡ underscored count plain
  pub no_word : HasWord definition.tokens name → ⊥
  pub least : (fewer : ℕ) → fewer < count → HasWord definition.tokens (underscored fewer plain)

-- One step for each of these fields, and then what is answered where no step returned.
pub record HasSteps (which : Comparison) (own others : Reading) (ordered : List Kept) (block : List Form) : Type 0 where
  pub steps : List Form
  pub steps_are : AreSteps which own others ordered steps
  pub block_is : block ≡ steps ++ form.Known (neutral which) ∷ []

-- The body of a comparison of a struct: its parameter has the chosen name, and its block has one step for each field that takes
-- part, in the order of the trait, which reads the field of `self` and of the parameter, in a packed struct by copies.
pub record IsStructBody (which : Comparison) (definition : DeriveInput) (fields : List Field) (body : Body) : Type 0 where
  pub param : Word
  pub params_are : body.params ≡ param ∷ []
  pub param_is : IsParameter definition (codes "other") param.text
  pub ordered : List Kept
  pub ordered_is : IsInOrder (trait_of which) (kept_fields (trait_of which) definition fields) ordered
  pub copied : Bool
  pub copied_are : AreCopied definition copied
  pub block_has : HasSteps which (of_base copied (codes "self")) (of_base copied param.text) ordered body.block

-- The body of a comparison of an enum: its names are chosen, its one parameter is the first of them, and its block is that of an
-- enum.
pub record IsEnumBody (which : Comparison) (definition : DeriveInput) (variants : List Variant) (body : Body) : Type 0 where
  pub names : Names
  pub names_are : AreNames definition names
  pub param : Word
  pub params_are : body.params ≡ param ∷ []
  pub param_is : param.text ≡ names.other
  pub block_is : IsEnumBlock which definition names variants body.block

-- The body of a comparison, for this shape of the definition.
abbrev pub IsBodyFor : Comparison → DeriveInput → Shape → Body → Type 0
IsBodyFor which definition (Struct shape) body = IsStructBody which definition shape.fields body
IsBodyFor which definition (Enum variants) body = IsEnumBody which definition variants body

-- The body of a comparison of the definition: that of a struct or that of an enum.
abbrev pub IsBody : Comparison → DeriveInput → Body → Type 0
IsBody which definition body = IsBodyFor which definition definition.shape body

-- The name of the one function of a comparison's trait.
abbrev pub function_name : Comparison → List ℕ
function_name PartialEq = codes "eq"
function_name PartialOrd = codes "partial_cmp"
function_name Ord = codes "cmp"

-- The functions of an impl: one of this name, whose body is as it is to be.
pub record IsFunction (name : List ℕ) (IsRight : Body → Type 0) (functions : List Function) : Type 0 where
  pub own : Word
  pub body : Body
  pub are : functions ≡ record { name = own; body = body } ∷ []
  pub name_is : own.text ≡ name
  pub body_is : IsRight body

-- An impl of a trait for the defined type, with the attributes of generated impls, the header of the trait, and its functions.
pub record IsImpl (which : Trait) (definition : DeriveInput) (AreFunctions : List Function → Type 0) (item : ImplItem) : Type 0 where
  pub which_is : item.which ≡ which
  pub attributes_are : written_lexemes item.attributes ≡ impl_attributes definition.attrs
  pub header_is : IsHeader which definition item.generics
  pub ident_is : item.ident ≡ definition.ident
  pub functions_are : AreFunctions item.functions

-- The items of a block: that impl, and nothing else.
pub record IsImplBlock (which : Trait) (definition : DeriveInput) (AreFunctions : List Function → Type 0) (items : List Item) : Type 0 where
  pub item : ImplItem
  pub are : items ≡ Impl item ∷ []
  pub impl_is : IsImpl which definition AreFunctions item

-- The block of a comparison: one impl with the one function of its trait.
abbrev pub IsComparisonBlock : Comparison → DeriveInput → List Item → Type 0
IsComparisonBlock which definition items = IsImplBlock (trait_of which) definition (IsFunction (function_name which) (IsBody which definition)) items

-- The impl with no trait that holds `new`: it has the lint attributes and the generics of the impl of `Default`.
pub record IsNew (definition : DeriveInput) (generics : Generics) (item : ImplItem) : Type 0 where
  pub which_is : item.which ≡ trait.Default
  pub attributes_are : written_lexemes item.attributes ≡ lints definition.attrs
  pub generics_are : item.generics ≡ generics
  pub ident_is : item.ident ≡ definition.ident
  pub functions_are : IsFunction (codes "new") IsNewBody item.functions

-- With true the items are the impl that holds `new`, and else there are none.
abbrev pub AreNew : Bool → DeriveInput → Generics → List Item → Type 0
AreNew false definition generics items = items ≡ []
AreNew true definition generics items = (item : ImplItem) × (items ≡ New item ∷ []) × IsNew definition generics item

-- The impl of `Default`: it has the one function `default`.
abbrev pub IsDefaultImpl : DeriveInput → ImplItem → Type 0
IsDefaultImpl definition item = IsImpl trait.Default definition (IsFunction (codes "default") (IsDefaultBody definition)) item

-- The block of `Default`: that impl, and where the type says so the one that holds `new`.
pub record IsDefaultBlock (definition : DeriveInput) (items : List Item) : Type 0 where
  pub item : ImplItem
  pub more : List Item
  pub are : items ≡ Impl item ∷ more
  pub impl_is : IsDefaultImpl definition item
  pub more_are : AreNew (has_new definition) definition item.generics more

-- The block of `Hash`: one impl with the one function `hash`.
abbrev pub IsHashBlock : DeriveInput → List Item → Type 0
IsHashBlock definition items = IsImplBlock trait.Hash definition (IsFunction (codes "hash") (IsHashBody definition)) items

-- There are no functions.
abbrev pub AreNone : List Function → Type 0
AreNone functions = functions ≡ []

-- Whether the types of fields are checked: where the bound is the automatic one, and there are such types.
abbrev pub has_check : Bound → List Ty → Bool
has_check Disabled types = false
has_check Auto [] = false
has_check Auto (t ∷ ts) = true
has_check All types = false
has_check (Custom predicates) types = false

-- The check of the types of fields, with the generics of the impl, and behind it the impl, and nothing else.
pub record IsCheckedBlock (definition : DeriveInput) (items : List Item) : Type 0 where
  pub check : CheckItem
  pub item : ImplItem
  pub are : items ≡ FieldCheck check ∷ Impl item ∷ []
  pub check_is : IsCheck definition item.generics (checked_types definition) check
  pub impl_is : IsImpl trait.Eq definition AreNone item

-- The items of the block of `Eq`: with true the check and the impl, and else the impl alone.
abbrev pub IsEqBlockWith : Bool → DeriveInput → List Item → Type 0
IsEqBlockWith true definition items = IsCheckedBlock definition items
IsEqBlockWith false definition items = IsImplBlock trait.Eq definition AreNone items

-- The block of `Eq`: one impl, which has no functions, and before it the check, where types of fields are checked.
abbrev pub IsEqBlock : DeriveInput → List Item → Type 0
IsEqBlock definition items = IsEqBlockWith (has_check (bound_for trait.Eq definition) (checked_types definition)) definition items

-- The block of `Copy`: one impl, which has no functions.
abbrev pub IsCopyBlock : DeriveInput → List Item → Type 0
IsCopyBlock definition items = IsImplBlock trait.Copy definition AreNone items

-- The one function is `clone`, which copies the value as a whole: `* self`.
abbrev pub AreCopying : List Function → Type 0
AreCopying functions = IsFunction (codes "clone") (HasOneForm (λ x. x ≡ form.WholeCopy)) functions

-- The functions are `clone` and `clone_from`.
pub record AreCloning (definition : DeriveInput) (names : CloneNames) (functions : List Function) : Type 0 where
  pub first : List Function
  pub second : List Function
  pub are : functions ≡ first ++ second
  pub clone_is : IsFunction (codes "clone") (IsCloneBody definition names) first
  pub clone_from_is : IsFunction (codes "clone_from") (IsFromBody definition names) second

-- The functions of the impl of `Clone`: with true, where values are copied as a whole, `clone` alone, which is `* self`;
-- otherwise `clone` and `clone_from`.
abbrev pub AreCloneFunctions : Bool → DeriveInput → CloneNames → List Function → Type 0
AreCloneFunctions true definition names functions = AreCopying functions
AreCloneFunctions false definition names functions = AreCloning definition names functions

-- The block of `Clone`: its impl, and behind it a marker for each field with a method.
pub record IsCloneBlock (definition : DeriveInput) (items : List Item) : Type 0 where
  pub names : CloneNames
  pub names_are : AreCloneNames definition names
  pub item : ImplItem
  pub markers : List MarkerItem
  pub are : items ≡ Impl item ∷ map Marker markers
  pub impl_is : IsImpl trait.Clone definition (AreCloneFunctions (copies_whole definition) definition names) item
  pub markers_are : AreMarkers trait.Clone definition item.generics (names.function ∷ names.value ∷ []) (all_kept trait.Clone definition) markers

-- The block of `Debug`: its impl with the one function `fmt`, and behind it a marker for each field with a method that is shown.
pub record IsDebugBlock (definition : DeriveInput) (items : List Item) : Type 0 where
  pub names : DebugNames
  pub names_are : AreDebugNames definition names
  pub item : ImplItem
  pub markers : List MarkerItem
  pub are : items ≡ Impl item ∷ map Marker markers
  pub impl_is : IsImpl trait.Debug definition (IsFunction (codes "fmt") (IsDebugBody definition names)) item
  pub markers_are : AreMarkers trait.Debug definition item.generics (marker_names names) (all_shown definition) markers

-- The items of the block of a trait.
abbrev pub IsBlock : Trait → DeriveInput → List Item → Type 0
IsBlock trait.Clone definition items = IsCloneBlock definition items
IsBlock trait.Copy definition items = IsCopyBlock definition items
IsBlock trait.PartialEq definition items = IsComparisonBlock PartialEq definition items
IsBlock trait.Eq definition items = IsEqBlock definition items
IsBlock trait.PartialOrd definition items = IsComparisonBlock PartialOrd definition items
IsBlock trait.Ord definition items = IsComparisonBlock Ord definition items
IsBlock trait.Hash definition items = IsHashBlock definition items
IsBlock trait.Debug definition items = IsDebugBlock definition items
IsBlock trait.Default definition items = IsDefaultBlock definition items

-- The blocks of these traits, one behind the other, and nothing else.
abbrev pub Blocks : List Trait → DeriveInput → List Item → Type 0
Blocks [] definition items = items ≡ []
Blocks (which ∷ traits) definition items =
    (own : List Item) × (rest : List Item) × (items ≡ own ++ rest) × IsBlock which definition own × Blocks traits definition rest

-- One block for each listed trait, in the fixed order, and nothing else.
abbrev pub OneEach : DeriveInput → List Item → Type 0
OneEach definition items = Blocks (listed_in_order definition) definition items

-- The scene in which `self` is the first value and the parameter the second.
abbrev pub scene_of : DeriveInput → Value → Value → Answers → Scene
scene_of definition a b table = record { definition = definition; this = Some a; other = Some b; answers = table; field = None }

-- Over each table and any two values that it covers, the function evaluates to what the comparison means.
abbrev pub Compares : Comparison → DeriveInput → Body → Type 0
Compares which definition body =
    (table : Answers) (a b : Value) → Covers which table definition a b → value body (scene_of definition a b table) ≡ meaning which table definition a b

-- The scene in which `self` is the value, whatever the other value is.
abbrev pub scene_with : DeriveInput → Value → Option Value → Answers → Scene
scene_with definition a other table = record { definition = definition; this = Some a; other = other; answers = table; field = None }

-- Over each table and any value that it covers, the function feeds what the value feeds to a hasher.
abbrev pub Hashes : DeriveInput → Body → Type 0
Hashes definition body =
    (table : Answers) (a : Value) (other : Option Value) → HashCovers table definition a → value body (scene_with definition a other table) ≡ Parts (hash_of table definition a)

-- Over each table by which each of its calls makes a value, the function evaluates to what `clone` means of a value of the
-- definition's shape.
abbrev pub Clones : DeriveInput → Body → Type 0
Clones definition body =
    (table : Answers) (a : Value) (other : Option Value) (outcome : Outcome) → HasShape definition a → clone_of table definition a ≡ Some outcome
    → value body (scene_with definition a other table) ≡ outcome

-- Over each table by which each of its calls makes a value, the function evaluates to what `clone_from` means of two values of
-- the definition's shape, where fields are read by copies or not.
abbrev pub ClonesFrom : DeriveInput → Body → Type 0
ClonesFrom definition body =
    (table : Answers) (a b : Value) (copied : Bool) (outcome : Outcome) → AreCopied definition copied → HasShape definition a → HasShape definition b
    → clone_from_of table copied definition a b ≡ Some outcome → value body (scene_of definition a b table) ≡ outcome

-- Over each table and any value of the definition's shape, the function shows what `fmt` shows of it.
abbrev pub Shows : DeriveInput → Body → Type 0
Shows definition body =
    (table : Answers) (a : Value) (other : Option Value) → HasShape definition a → value body (scene_with definition a other table) ≡ outcome.Shape (shape_of definition a)

-- The function evaluates to what one of this name means, if it has this name.
abbrev pub MeansIfNamed : List ℕ → (Body → Type 0) → Function → Type 0
MeansIfNamed name Means f = f.name.text ≡ name → Means f.body

-- The function evaluates to what the trait means by it; `Copy` and `Eq` have none.
abbrev pub Evaluates : Trait → DeriveInput → Function → Type 0
Evaluates trait.Clone definition f = MeansIfNamed (codes "clone") (Clones definition) f × MeansIfNamed (codes "clone_from") (ClonesFrom definition) f
Evaluates trait.PartialEq definition f = Compares PartialEq definition f.body
Evaluates trait.PartialOrd definition f = Compares PartialOrd definition f.body
Evaluates trait.Ord definition f = Compares Ord definition f.body
Evaluates trait.Hash definition f = Hashes definition f.body
Evaluates trait.Debug definition f = Shows definition f.body
Evaluates trait.Default definition f = MakesDefault definition f.body
Evaluates _ definition f = ⊥

-- Each function of the item evaluates to what the item's trait means, or `new` to what the call of `default` makes; the functions of
-- checks and of markers are never called.
abbrev pub EachEvaluates : DeriveInput → Item → Type 0
EachEvaluates definition (Impl item) = AllByRecursion (Evaluates item.which definition) item.functions
EachEvaluates definition (New item) = AllByRecursion (λ f. MakesNew definition f.body) item.functions
EachEvaluates definition (FieldCheck check) = Unit {0}
EachEvaluates definition (Marker marker) = Unit {0}

-- Where the bound of the item's trait is the automatic one, its own predicates suffice, and none of them can be dropped; checks and
-- markers have those of their impls.
abbrev pub HasTightBounds : DeriveInput → Item → Type 0
HasTightBounds definition (Impl item) = bound_for item.which definition ≡ Auto → AreTight item.which definition (keys_of item.generics.predicates)
HasTightBounds definition (New item) = bound_for item.which definition ≡ Auto → AreTight item.which definition (keys_of item.generics.predicates)
HasTightBounds definition (FieldCheck check) = Unit {0}
HasTightBounds definition (Marker marker) = Unit {0}

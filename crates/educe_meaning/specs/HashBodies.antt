-- The body of the derived `hash`.
use Rattle.std.specs.Prelude.{◌≡◌, ℕ, Bool, true, false, List, [], ◌∷◌, ◌++◌, codes}
use Rattle.std.specs.List.{AllZip}
use Rattle.educe_tokens.specs.declared.word.Word.{Word}
use Rattle.educe_syntax.specs.DeriveInput.{DeriveInput}
use Rattle.educe_syntax.specs.ExprPath.{ExprPath}
use Rattle.educe_syntax.specs.Field.{Field}
use Rattle.educe_syntax.specs.Ident.{Ident}
use Rattle.educe_syntax.specs.Shape.{Shape}
use Rattle.educe_syntax.specs.Shape.TheVariants.{Struct, Enum}
use Rattle.educe_syntax.specs.Variant.{Variant}
use Rattle.educe_bound_traits.specs.declared.traits.Trait.TheVariants as trait
use Rattle.educe_body.specs.Chosen.{IsPrefix}
use Rattle.educe_body_forms.specs.declared.body.Body.{Body}
use Rattle.educe_body_values.specs.declared.callee.BuiltIn.TheVariants.{Hash}
use Rattle.educe_body_forms.specs.declared.form.Arm.{Arm}
use Rattle.educe_body_forms.specs.declared.form.Form.{Form, Local, Call, HashPart, MatchValue}
use Rattle.educe_body_forms.specs.declared.form.Form as form
use Rattle.educe_body_forms.specs.declared.position.Position.{Position}
use Rattle.educe_meaning.specs.Arms.{AreChosenFor, IsName, IsPattern, AreArms, IsSpelled}
use Rattle.educe_settings.specs.Cases.{fields_in}
use Rattle.educe_settings.specs.Packed.{AreCopied}
use Rattle.educe_settings.specs.Settings.{Kept, How, plainly, kept_fields}
use Rattle.educe_meaning.specs.Steps.{Reading, of_base, bound, IsRead, IsCalled}

-- ---- names

-- The names that `hash` declares: its hasher, and the type of that; and the prefix of the variables for the fields of the value.
pub record HashNames : Type 0 where
  pub state : List ℕ
  pub hasher : List ℕ
  pub prefix : List ℕ

-- The names among them, as they are written where nothing is in their way.
abbrev pub plain_params : List (List ℕ)
plain_params = codes "state" ∷ codes "H" ∷ []

-- The texts of the chosen names, in the order of the plain ones.
abbrev pub chosen_params : HashNames → List (List ℕ)
chosen_params names = names.state ∷ names.hasher ∷ []

-- The names `state` and `H` are chosen in this order, and then the prefix `_v_` is chosen so that neither a word of the
-- definition nor a name begins with it.
pub record AreHashNames (definition : DeriveInput) (names : HashNames) : Type 0 where
  pub are : AreChosenFor definition plain_params (chosen_params names)
  pub prefix_is : IsPrefix (are.words ++ chosen_params names) (codes "_v_") names.prefix

-- The parameters of the function have these names.
pub record AreHashParams (names : HashNames) (params : List Word) : Type 0 where
  pub state : Word
  pub hasher : Word
  pub are : params ≡ state ∷ hasher ∷ []
  pub state_is : state.text ≡ names.state
  pub hasher_is : hasher.text ≡ names.hasher

-- ---- steps

-- A call that feeds what this form gives to the hasher of this name: `path ( x , state ) ;`.
pub record Feeds (state : List ℕ) (how : How) (fed x : Form) : Type 0 where
  pub path : ExprPath
  pub path_is : IsCalled Hash how path
  pub hasher : Ident
  pub hasher_is : IsName state hasher
  pub is : x ≡ HashPart (Call path (fed ∷ Local hasher ∷ []))

-- The step on a field, which is read so, and no other.
pub record IsHashStep (state : List ℕ) (reading : Reading) (kept : Kept) (x : Form) : Type 0 where
  pub fed : Form
  pub fed_is : IsRead reading kept fed
  pub is : Feeds state kept.how fed x

-- One step of `Hash` for each of these fields, in their order.
abbrev pub AreHashSteps : List ℕ → Reading → List Kept → List Form → Type 0
AreHashSteps state reading kept steps = AllZip (IsHashStep state reading) kept steps

-- The step on the place of a variant: `:: core :: hash :: Hash :: hash ( & 3usize , state ) ;`.
pub record IsPlaceStep (state : List ℕ) (place : ℕ) (x : Form) : Type 0 where
  pub position : Position
  pub position_is : position.place ≡ place
  pub is : Feeds state plainly (form.Position position) x

-- ---- bodies

-- The block for a struct: one step for each field that takes part, in written order, which reads the field of `self`, in a packed
-- struct by a copy.
pub record IsHashStructBlock (definition : DeriveInput) (names : HashNames) (fields : List Field) (block : List Form) : Type 0 where
  pub copied : Bool
  pub copied_are : AreCopied definition copied
  pub steps_are : AreHashSteps names.state (of_base copied (codes "self")) (kept_fields trait.Hash definition fields) block

-- The arm of the variant at a place: the step on the place, and then one for each field that takes part, in written order, on its
-- variable; it has braces and no comma.
pub record IsHashArm (definition : DeriveInput) (names : HashNames) (place : ℕ) (variant : Variant) (arm : Arm) : Type 0 where
  pub spelled : IsSpelled true false arm
  pub pattern_is : IsPattern trait.Hash definition names.prefix variant arm.pattern
  pub first : Form
  pub first_is : IsPlaceStep names.state place first
  pub steps : List Form
  pub steps_are : AreHashSteps names.state (bound names.prefix) (kept_fields trait.Hash definition (fields_in variant)) steps
  pub block_is : arm.block ≡ first ∷ steps

-- A match on the value of `self`, with one arm for each variant in written order.
pub record IsHashMatch (definition : DeriveInput) (names : HashNames) (variants : List Variant) (block : List Form) : Type 0 where
  pub value : Ident
  pub value_is : IsName (codes "self") value
  pub arms : List Arm
  pub arms_are : AreArms (IsHashArm definition names) 0 variants arms
  pub block_is : block ≡ MatchValue value arms ∷ []

-- The block for an enum; without variants there is no value, and nothing is fed.
abbrev pub IsHashEnumBlock : DeriveInput → HashNames → List Variant → List Form → Type 0
IsHashEnumBlock definition names [] block = block ≡ []
IsHashEnumBlock definition names (v ∷ vs) block = IsHashMatch definition names (v ∷ vs) block

-- The block for what stands behind the name of a definition.
abbrev pub IsHashForms : DeriveInput → HashNames → Shape → List Form → Type 0
IsHashForms definition names (Struct shape) block = IsHashStructBlock definition names shape.fields block
IsHashForms definition names (Enum variants) block = IsHashEnumBlock definition names variants block

-- The body of `hash`: its names are chosen, its two parameters are the hasher and the type of that, and its block is that of the
-- struct or of the variants.
pub record IsHashBody (definition : DeriveInput) (body : Body) : Type 0 where
  pub names : HashNames
  pub names_are : AreHashNames definition names
  pub params_are : AreHashParams names body.params
  pub block_is : IsHashForms definition names definition.shape body.block

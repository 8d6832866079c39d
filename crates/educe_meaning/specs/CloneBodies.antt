-- The bodies of the derived `clone` and `clone_from`.
use Rattle.std.specs.Prelude.{◌≡◌, ℕ, Bool, true, false, not, List, [], ◌∷◌, ◌++◌, Option, Some, None, codes}
use Rattle.std.specs.List.{AllZip}
use Rattle.std.specs.Option.{option_map}
use Rattle.educe_tokens.specs.declared.word.Word.{Word}
use Rattle.educe_syntax.specs.DeriveInput.{DeriveInput}
use Rattle.educe_syntax.specs.ExprPath.{ExprPath}
use Rattle.educe_syntax.specs.FieldShape.{FieldShape}
use Rattle.educe_syntax.specs.Ident.{Ident}
use Rattle.educe_syntax.specs.Shape.{Shape}
use Rattle.educe_syntax.specs.Shape.TheVariants.{Struct, Enum}
use Rattle.educe_syntax.specs.Variant.{Variant}
use Rattle.educe_bound_traits.specs.declared.traits.Trait.TheVariants as trait
use Rattle.educe_body_values.specs.BuiltIn.{IsBuiltIn}
use Rattle.educe_body.specs.Chosen.{IsPrefix}
use Rattle.educe_body_forms.specs.Keys.{key_of, binding_key}
use Rattle.educe_body_forms.specs.declared.body.Body.{Body}
use Rattle.educe_body_values.specs.declared.callee.BuiltIn.{BuiltIn}
use Rattle.educe_body_values.specs.declared.callee.BuiltIn.TheVariants.{Clone, CloneFrom}
use Rattle.educe_body_forms.specs.declared.form.Arm.{Arm}
use Rattle.educe_body_forms.specs.declared.form.Form.{Form, Local, Call, Construct, IfLet, Unreachable, Discard, AssignField, AssignThrough}
use Rattle.educe_body_forms.specs.declared.form.Init.{Init}
use Rattle.educe_body_forms.specs.declared.pattern.Pattern.{Pattern}
use Rattle.educe_meaning.specs.Arms.{AreChosenFor, IsName, IsKey, IsPattern, IsMatchOnSelf, IsSpelled}
use Rattle.educe_settings.specs.Cases.{fields_in}
use Rattle.educe_settings.specs.Packed.{AreCopied}
use Rattle.educe_settings.specs.Settings.{Kept, How, plainly, by_method, by_order, kept_fields}
use Rattle.educe_meaning.specs.Steps.{Reading, of_base, bound, IsRead, IsCalled}

-- ---- names

-- The names that the block declares: the parameter of `clone_from`; the function of a marker, and its parameter; the prefix of the
-- variables for the fields that are read; and that of the variables for the fields of `self` in `clone_from`.
pub record CloneNames : Type 0 where
  pub source : List ℕ
  pub function : List ℕ
  pub value : List ℕ
  pub sources : List ℕ
  pub own : List ℕ

-- The names among them, as they are written where nothing is in their way.
abbrev pub plain_clone_names : List (List ℕ)
plain_clone_names = codes "source" ∷ codes "__educe_clone_method_used" ∷ codes "educe__value" ∷ []

-- The texts of the chosen names, in the order of the plain ones.
abbrev pub chosen_clone_names : CloneNames → List (List ℕ)
chosen_clone_names names = names.source ∷ names.function ∷ names.value ∷ []

-- The names are chosen in this order; the prefixes are chosen apart from the words of the definition and from the first of the names.
pub record AreCloneNames (definition : DeriveInput) (names : CloneNames) : Type 0 where
  pub are : AreChosenFor definition plain_clone_names (chosen_clone_names names)
  pub sources_are : IsPrefix (are.words ++ names.source ∷ []) (codes "_s_") names.sources
  pub own_is : IsPrefix (are.words ++ names.source ∷ []) (codes "_d_") names.own

-- ---- `clone`

-- The initializer of a field: its key, and a call of `Clone::clone`, or of its method, on the field, which is read so.
pub record IsCloneInit (reading : Reading) (kept : Kept) (init : Init) : Type 0 where
  pub key_is : IsKey kept.field.ident init.key
  pub path : ExprPath
  pub path_is : IsCalled Clone kept.how path
  pub own : Form
  pub own_is : IsRead reading kept own
  pub is : init.value ≡ Call path (own ∷ [])

-- `Self`, or with a name that variant of it, with one initializer for each field, in written order.
pub record IsCloneConstruct (definition : DeriveInput) (reading : Reading) (name : Option (List ℕ)) (shape : FieldShape) (x : Form) : Type 0 where
  pub variant : Option Ident
  pub variant_is : option_map (λ (ident : Ident). ident.text) variant ≡ name
  pub inits : List Init
  pub is : x ≡ Construct variant shape.form inits
  pub inits_are : AllZip (IsCloneInit reading) (kept_fields trait.Clone definition shape.fields) inits

-- The block of `clone` for a struct: it reads the fields of `self`, in a packed struct by copies.
pub record IsCloneStruct (definition : DeriveInput) (shape : FieldShape) (block : List Form) : Type 0 where
  pub copied : Bool
  pub copied_are : AreCopied definition copied
  pub form : Form
  pub form_is : IsCloneConstruct definition (of_base copied (codes "self")) None shape form
  pub block_is : block ≡ form ∷ []

-- The arm of a variant in `clone`: the variant, of its variables, without braces and with a comma behind it.
pub record IsCloneArm (definition : DeriveInput) (names : CloneNames) (variant : Variant) (arm : Arm) : Type 0 where
  pub spelled : IsSpelled false true arm
  pub pattern_is : IsPattern trait.Clone definition names.sources variant arm.pattern
  pub form : Form
  pub form_is : IsCloneConstruct definition (bound names.sources) (Some variant.ident.text) variant.fields form
  pub block_is : arm.block ≡ form ∷ []

-- The block of `clone` for an enum: a match on `self`; without variants `:: core :: unreachable ! ( )`.
abbrev pub IsCloneEnum : DeriveInput → CloneNames → List Variant → List Form → Type 0
IsCloneEnum definition names [] block = block ≡ Unreachable ∷ []
IsCloneEnum definition names (v ∷ vs) block = IsMatchOnSelf (IsCloneArm definition names) (v ∷ vs) block

-- The block of `clone` for what stands behind the name of a definition.
abbrev pub IsCloneBlockFor : DeriveInput → CloneNames → Shape → List Form → Type 0
IsCloneBlockFor definition names (Struct shape) block = IsCloneStruct definition shape block
IsCloneBlockFor definition names (Enum variants) block = IsCloneEnum definition names variants block

-- The body of `clone`: it has no parameters, and its block is that of the struct or of the variants.
pub record IsCloneBody (definition : DeriveInput) (names : CloneNames) (body : Body) : Type 0 where
  pub params_are : body.params ≡ []
  pub block_is : IsCloneBlockFor definition names definition.shape body.block

-- ---- `clone_from`

-- Whether a call is handed the field that it changes: without a method, and where fields are not read by copies.
abbrev pub hands_over : Bool → How → Bool
hands_over copied plainly = not copied
hands_over copied (by_method path) = false
hands_over copied (by_order path) = false

-- The function that is called without a method.
abbrev pub assigning : Bool → BuiltIn
assigning false = CloneFrom
assigning true = Clone

-- The step on a field of a struct: it changes the field of `self`, and reads that of the source, in a packed struct by a copy.
pub record IsAssignment (copied : Bool) (source : List ℕ) (kept : Kept) (x : Form) : Type 0 where
  pub key : Word
  pub key_is : key.text ≡ key_of kept.place kept.field
  pub path : ExprPath
  pub path_is : IsCalled (assigning copied) kept.how path
  pub read : Form
  pub read_is : IsRead (of_base copied source) kept read
  pub is : x ≡ AssignField key path read (hands_over copied kept.how)

-- `let _ = source ;`.
pub record IsDiscard (source : List ℕ) (block : List Form) : Type 0 where
  pub name : Ident
  pub name_is : IsName source name
  pub block_is : block ≡ Discard name ∷ []

-- One step for each field, in written order; without fields `let _ = source ;`.
abbrev pub AreAssignments : Bool → List ℕ → List Kept → List Form → Type 0
AreAssignments copied source [] block = IsDiscard source block
AreAssignments copied source (k ∷ ks) block = AllZip (IsAssignment copied source) (k ∷ ks) block

-- The block of `clone_from` for a struct: one step for each field, in written order.
pub record IsFromStruct (definition : DeriveInput) (names : CloneNames) (shape : FieldShape) (block : List Form) : Type 0 where
  pub copied : Bool
  pub copied_are : AreCopied definition copied
  pub steps_are : AreAssignments copied names.source (kept_fields trait.Clone definition shape.fields) block

-- The step on a field of a variant: it changes what its variable for `self` stands for, and reads that for the source.
pub record IsThrough (names : CloneNames) (kept : Kept) (x : Form) : Type 0 where
  pub target : Ident
  pub target_is : IsName (names.own ++ binding_key kept.place kept.field) target
  pub path : ExprPath
  pub path_is : IsCalled (assigning false) kept.how path
  pub read : Form
  pub read_is : IsRead (bound names.sources) kept read
  pub is : x ≡ AssignThrough target path read (hands_over false kept.how)

-- `* self = :: core :: clone :: Clone :: clone ( source ) ;`.
pub record IsWhole (source : List ℕ) (x : Form) : Type 0 where
  pub target : Ident
  pub target_is : IsName (codes "self") target
  pub path : ExprPath
  pub path_is : IsBuiltIn Clone path
  pub name : Ident
  pub name_is : IsName source name
  pub is : x ≡ AssignThrough target path (Local name) false

-- The arm of a variant in `clone_from`: if the source is of this variant, one step for each field, in written order; else `self`
-- becomes a clone of the source as a whole; it has braces and a comma.
pub record IsFromArm (definition : DeriveInput) (names : CloneNames) (variant : Variant) (arm : Arm) : Type 0 where
  pub spelled : IsSpelled true true arm
  pub own_is : IsPattern trait.Clone definition names.own variant arm.pattern
  pub inner : Pattern
  pub inner_is : IsPattern trait.Clone definition names.sources variant inner
  pub value : Ident
  pub value_is : IsName names.source value
  pub steps : List Form
  pub steps_are : AllZip (IsThrough names) (kept_fields trait.Clone definition (fields_in variant)) steps
  pub whole : Form
  pub whole_is : IsWhole names.source whole
  pub block_is : arm.block ≡ IfLet inner value steps (Some (whole ∷ [])) ∷ []

-- The block of `clone_from` for an enum: a match on `self`; without variants `let _ = source ;`.
abbrev pub IsFromEnum : DeriveInput → CloneNames → List Variant → List Form → Type 0
IsFromEnum definition names [] block = IsDiscard names.source block
IsFromEnum definition names (v ∷ vs) block = IsMatchOnSelf (IsFromArm definition names) (v ∷ vs) block

-- The block of `clone_from` for what stands behind the name of a definition.
abbrev pub IsFromBlockFor : DeriveInput → CloneNames → Shape → List Form → Type 0
IsFromBlockFor definition names (Struct shape) block = IsFromStruct definition names shape block
IsFromBlockFor definition names (Enum variants) block = IsFromEnum definition names variants block

-- The body of `clone_from`: its parameter has the chosen name.
pub record IsFromBody (definition : DeriveInput) (names : CloneNames) (body : Body) : Type 0 where
  pub param : Word
  pub params_are : body.params ≡ param ∷ []
  pub param_is : param.text ≡ names.source
  pub block_is : IsFromBlockFor definition names definition.shape body.block

-- The body of the derived `fmt`.
use Rattle.std.specs.Prelude.{ℕ, ◌≡◌, Bool, true, false, not, List, [], ◌∷◌, ◌++◌, map, codes}
use Rattle.std.specs.List.{list_any}
use Rattle.educe_tokens.specs.declared.word.Word.{Word}
use Rattle.educe_syntax.specs.DeriveInput.{DeriveInput}
use Rattle.educe_syntax.specs.ExprPath.{ExprPath}
use Rattle.educe_syntax.specs.Field.{Field}
use Rattle.educe_syntax.specs.FieldShape.{FieldShape}
use Rattle.educe_syntax.specs.Ident.{Ident}
use Rattle.educe_syntax.specs.Shape.{Shape}
use Rattle.educe_syntax.specs.Shape.TheVariants.{Struct, Enum}
use Rattle.educe_syntax.specs.Variant.{Variant}
use Rattle.educe_bound_traits.specs.declared.traits.Trait.TheVariants.{Debug}
use Rattle.educe_body.specs.Chosen.{IsPrefix}
use Rattle.educe_body_forms.specs.declared.body.Body.{Body}
use Rattle.educe_body_forms.specs.declared.form.Arm.{Arm}
use Rattle.educe_body_forms.specs.declared.form.Form.{Form, Local, WriteText, HelperType, Builder, BuilderEntry, MethodArgument, Finish}
use Rattle.educe_body_forms.specs.declared.literal_text.LiteralText.{LiteralText}
use Rattle.educe_body_forms.specs.declared.shown.ArgumentNames.{ArgumentNames}
use Rattle.educe_body_forms.specs.declared.shown.EntryKey.{EntryKey}
use Rattle.educe_body_forms.specs.declared.shown.EntryKey.TheVariants as entry
use Rattle.educe_body_forms.specs.declared.shown.Opening.{Opening}
use Rattle.educe_body_forms.specs.declared.shown.Opening.TheVariants as opening
use Rattle.educe_body_values.specs.declared.shape.ShapeForm.{ShapeForm}
use Rattle.educe_body_values.specs.declared.shape.ShapeForm.TheVariants as form
use Rattle.educe_meaning.specs.Arms.{AreChosenFor, IsName, IsPatternBy, IsMatchOnSelf, IsSpelled}
use Rattle.educe_settings.specs.Cases.{fields_in}
use Rattle.educe_settings.specs.Packed.{AreCopied}
use Rattle.educe_settings.specs.Settings.{Kept, How, plainly, by_method, by_order, type_settings}
use Rattle.educe_settings.specs.Shown.{ShownCase, struct_shown, variant_shown, shown_cases, type_text, entry_settings, shown_fields}
use Rattle.educe_meaning.specs.Showing.{form_of, shown_key}
use Rattle.educe_meaning.specs.Steps.{Reading, of_base, bound, IsRead}

-- ---- names

-- The names that the block declares: the formatter; the builder; the argument of a method; the type that wraps a field and its
-- method; the type of the keys of a map; the two parameters of the wrapper; the value and the formatter that the method is called
-- on; the function of a marker, and its formatter; and the prefix of the variables for the fields of the value.
pub record DebugNames : Type 0 where
  pub formatter : List ℕ
  pub builder : List ℕ
  pub argument : List ℕ
  pub wrapper : List ℕ
  pub helper : List ℕ
  pub value_type : List ℕ
  pub function_type : List ℕ
  pub value : List ℕ
  pub value_formatter : List ℕ
  pub function : List ℕ
  pub marker_formatter : List ℕ
  pub prefix : List ℕ

-- The names that `fmt` declares, as they are written where nothing is in their way.
abbrev pub plain_fmt_names : List (List ℕ)
plain_fmt_names =
    codes "f" ∷ codes "builder" ∷ codes "arg" ∷ codes "Educe__DebugField" ∷ codes "Educe__RawString" ∷ codes "V" ∷ codes "F" ∷ codes "educe__value"
    ∷ codes "educe__formatter" ∷ []

-- The texts of the names chosen for `fmt`, in the order of the plain ones.
abbrev pub chosen_fmt_names : DebugNames → List (List ℕ)
chosen_fmt_names names =
    names.formatter ∷ names.builder ∷ names.argument ∷ names.wrapper ∷ names.helper ∷ names.value_type ∷ names.function_type ∷ names.value
    ∷ names.value_formatter ∷ []

-- The names that a marker declares beyond those of `fmt`, as they are written where nothing is in their way.
abbrev pub plain_marker_names : List (List ℕ)
plain_marker_names = codes "__educe_debug_method_used" ∷ codes "educe__f" ∷ []

-- The texts of the names chosen for a marker, in the order of the plain ones.
abbrev pub chosen_marker_names : DebugNames → List (List ℕ)
chosen_marker_names names = names.function ∷ names.marker_formatter ∷ []

-- The names of a marker: its function, and the parameters of that.
abbrev pub marker_names : DebugNames → List (List ℕ)
marker_names names = names.function ∷ names.value ∷ names.marker_formatter ∷ []

-- The names are chosen in this order; the prefix is chosen apart from the words of the definition and from those that `fmt` declares.
pub record AreDebugNames (definition : DeriveInput) (names : DebugNames) : Type 0 where
  pub are : AreChosenFor definition (plain_fmt_names ++ plain_marker_names) (chosen_fmt_names names ++ chosen_marker_names names)
  pub prefix_is : IsPrefix (are.words ++ chosen_fmt_names names) (codes "_") names.prefix

-- ---- entries

-- The literal has this text.
pub record IsText (text : List ℕ) (literal : LiteralText) : Type 0 where
  pub is : literal.text ≡ text

-- The key of an entry of what is shown so: in a struct this text, in a tuple none, in a map this text as a value of the helper type.
abbrev pub IsEntryKey : DebugNames → ShapeForm → List ℕ → EntryKey → Type 0
IsEntryKey names form.Word text key = ⊥
IsEntryKey names form.Struct text key = (literal : LiteralText) × IsText text literal × (key ≡ entry.Named literal)
IsEntryKey names form.Tuple text key = key ≡ entry.Unnamed
IsEntryKey names form.Map text key = (helper : Ident) × (literal : LiteralText) × IsName names.helper helper × IsText text literal × (key ≡ entry.Mapped helper literal)

-- The entry of what this form gives, before which `&` stands or not.
pub record IsEntry (names : DebugNames) (form : ShapeForm) (text : List ℕ) (by_reference : Bool) (held x : Form) : Type 0 where
  pub builder : Ident
  pub builder_is : IsName names.builder builder
  pub key : EntryKey
  pub key_is : IsEntryKey names form text key
  pub is : x ≡ BuilderEntry builder key held by_reference

-- The names of an argument.
pub record AreArgumentNames (names : DebugNames) (own : ArgumentNames) : Type 0 where
  pub argument_is : IsName names.argument own.argument
  pub wrapper_is : IsName names.wrapper own.wrapper
  pub value_type_is : IsName names.value_type own.value_type
  pub function_type_is : IsName names.function_type own.function_type
  pub formatter_is : IsName names.formatter own.formatter
  pub own_value_is : IsName names.value own.own_value
  pub own_formatter_is : IsName names.value_formatter own.own_formatter

-- The argument of the method of a field on what this form gives, with the type of the field as it was written.
pub record IsArgument (names : DebugNames) (field : Field) (path : ExprPath) (held x : Form) : Type 0 where
  pub own : ArgumentNames
  pub own_are : AreArgumentNames names own
  pub is : x ≡ MethodArgument own held field.ty.written path

-- A field of a struct is handed to the builder behind a further `&`, but not a variable.
abbrev pub is_lent : Reading → Bool
is_lent (of_base copied base) = true
is_lent (bound prefix) = false

-- The forms on a field without a method: the entry of what is read.
pub record ArePlain (names : DebugNames) (form : ShapeForm) (text : List ℕ) (reading : Reading) (kept : Kept) (forms : List Form) : Type 0 where
  pub read : Form
  pub read_is : IsRead reading kept read
  pub entry : Form
  pub entry_is : IsEntry names form text (is_lent reading) read entry
  pub are : forms ≡ entry ∷ []

-- The forms on a field with this method: the argument on what is read, and the entry of the argument.
pub record AreByMethod (names : DebugNames) (form : ShapeForm) (text : List ℕ) (reading : Reading) (kept : Kept) (path : ExprPath) (forms : List Form) : Type 0 where
  pub read : Form
  pub read_is : IsRead reading kept read
  pub argument : Form
  pub argument_is : IsArgument names kept.field path read argument
  pub local : Ident
  pub local_is : IsName names.argument local
  pub entry : Form
  pub entry_is : IsEntry names form text true (Local local) entry
  pub are : forms ≡ argument ∷ entry ∷ []

-- The forms on a field that is treated in this way.
abbrev pub AreFormsBy : DebugNames → ShapeForm → List ℕ → Reading → Kept → How → List Form → Type 0
AreFormsBy names form text reading kept plainly forms = ArePlain names form text reading kept forms
AreFormsBy names form text reading kept (by_method path) forms = AreByMethod names form text reading kept path forms
AreFormsBy names form text reading kept (by_order path) forms = AreByMethod names form text reading kept path forms

-- The forms on each of these fields of a case, in their order.
abbrev pub AreEntries : DeriveInput → DebugNames → ShownCase → Reading → List Kept → List Form → Type 0
AreEntries definition names case reading [] forms = forms ≡ []
AreEntries definition names case reading (k ∷ kept) forms =
    (own : List Form) × (more : List Form) × (forms ≡ own ++ more) × AreFormsBy names (form_of case) (shown_key case.named definition k) reading k k.how own
    × AreEntries definition names case reading kept more

-- ---- blocks

-- The call that begins the builder, by the form and the name of what is shown.
abbrev pub IsOpening : ShapeForm → List ℕ → Opening → Type 0
IsOpening form.Word name begins = ⊥
IsOpening form.Struct name begins = (literal : LiteralText) × IsText name literal × (begins ≡ opening.Struct literal)
IsOpening form.Tuple name begins = (literal : LiteralText) × IsText name literal × (begins ≡ opening.Tuple literal)
IsOpening form.Map name begins = begins ≡ opening.Map

-- A builder is begun, has an entry for each field of the case that is shown, in written order, which is read so, and is finished.
pub record IsBuilt (definition : DeriveInput) (names : DebugNames) (reading : Reading) (case : ShownCase) (block : List Form) : Type 0 where
  pub builder : Ident
  pub builder_is : IsName names.builder builder
  pub formatter : Ident
  pub formatter_is : IsName names.formatter formatter
  pub begins : Opening
  pub begins_are : IsOpening (form_of case) case.name begins
  pub entries : List Form
  pub entries_are : AreEntries definition names case reading (shown_fields definition case) entries
  pub last : Ident
  pub last_is : IsName names.builder last
  pub block_is : block ≡ Builder builder formatter begins ∷ (entries ++ Finish last ∷ [])

-- A name is written.
pub record IsWritten (names : DebugNames) (name : List ℕ) (block : List Form) : Type 0 where
  pub formatter : Ident
  pub formatter_is : IsName names.formatter formatter
  pub literal : LiteralText
  pub literal_is : IsText name literal
  pub block_is : block ≡ WriteText formatter literal ∷ []

-- The block for a struct: it reads the fields of `self`, in a packed struct by copies.
pub record IsDebugStruct (definition : DeriveInput) (names : DebugNames) (shape : FieldShape) (block : List Form) : Type 0 where
  pub copied : Bool
  pub copied_are : AreCopied definition copied
  pub built : IsBuilt definition names (of_base copied (codes "self")) (struct_shown definition shape) block

-- The block in the arm of a variant: with true it writes the name; and else it has a builder, which reads the variables.
abbrev pub IsArmBlock : Bool → DeriveInput → DebugNames → ShownCase → List Form → Type 0
IsArmBlock true definition names case block = IsWritten names case.name block
IsArmBlock false definition names case block = IsBuilt definition names (bound names.prefix) case block

-- The arm of a variant: it has a comma, and braces where it does not only write the name.
pub record IsDebugArm (definition : DeriveInput) (names : DebugNames) (variant : Variant) (arm : Arm) : Type 0 where
  pub spelled : IsSpelled (not (variant_shown definition variant).unit) true arm
  pub pattern_is : IsPatternBy names.prefix variant (map (entry_settings (variant_shown definition variant).named definition) (fields_in variant)) arm.pattern
  pub block_is : IsArmBlock (variant_shown definition variant).unit definition names (variant_shown definition variant) arm.block

-- The block for an enum; without variants its name is written.
abbrev pub IsDebugEnum : DeriveInput → DebugNames → List Variant → List Form → Type 0
IsDebugEnum definition names [] block = IsWritten names (type_text definition (type_settings Debug definition)) block
IsDebugEnum definition names (v ∷ vs) block = IsMatchOnSelf (IsDebugArm definition names) (v ∷ vs) block

-- The block for what stands behind the name of a definition.
abbrev pub IsDebugBlockFor : DeriveInput → DebugNames → Shape → List Form → Type 0
IsDebugBlockFor definition names (Struct shape) block = IsDebugStruct definition names shape block
IsDebugBlockFor definition names (Enum variants) block = IsDebugEnum definition names variants block

-- ---- the body

-- The form is that of a map.
abbrev pub is_map : ShapeForm → Bool
is_map form.Word = false
is_map form.Struct = false
is_map form.Tuple = false
is_map form.Map = true

-- The values of a case are shown as a map.
abbrev pub uses_map : DeriveInput → Bool
uses_map definition = list_any (λ case. is_map (form_of case)) (shown_cases definition)

-- With true the block is the type of the keys of a map and then these forms, and else these forms alone.
abbrev pub HasHelper : Bool → DebugNames → List Form → List Form → Type 0
HasHelper false names forms block = block ≡ forms
HasHelper true names forms block =
    (helper : Ident) × (formatter : Ident) × IsName names.helper helper × IsName names.formatter formatter × (block ≡ HelperType helper formatter ∷ forms)

-- The body of `fmt`: its parameter is the formatter, and the type of the keys of a map stands in front, where a case is shown as a map.
pub record IsDebugBody (definition : DeriveInput) (names : DebugNames) (body : Body) : Type 0 where
  pub param : Word
  pub params_are : body.params ≡ param ∷ []
  pub param_is : param.text ≡ names.formatter
  pub forms : List Form
  pub forms_are : IsDebugBlockFor definition names definition.shape forms
  pub block_is : HasHelper (uses_map definition) names forms body.block

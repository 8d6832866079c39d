-- What the attributes of a definition say of `Debug`: which names and which fields are shown, and why it is rejected (documentation of
-- `educe`, Debug).
use Rattle.std.specs.Prelude.{ℕ, ◌≡◌, Bool, true, false, List, [], ◌∷◌, ◌++◌, map, unwrap_or, codes}
use Rattle.std.specs.List.{AllByRecursion, flat_map}
use Rattle.educe_tokens.specs.declared.error.EduceError.{EduceError}
use Rattle.educe_tokens.specs.declared.error.Kind.{Kind}
use Rattle.educe_tokens.specs.declared.error.Kind.TheVariants.{UnitStructNeedName, UnitVariantNeedName, UnitEnumNeedName}
use Rattle.educe_tokens.specs.declared.span.Span.{Span}
use Rattle.educe_syntax.specs.DeriveInput.{DeriveInput}
use Rattle.educe_syntax.specs.Few.{variants_of}
use Rattle.educe_syntax.specs.Field.{Field}
use Rattle.educe_syntax.specs.FieldShape.{FieldShape}
use Rattle.educe_syntax.specs.Ident.{Ident}
use Rattle.educe_syntax.specs.Shape.{Shape}
use Rattle.educe_syntax.specs.Shape.TheVariants.{Struct, Enum}
use Rattle.educe_syntax.specs.Variant.{Variant}
use Rattle.educe_bound_traits.specs.declared.traits.Trait.TheVariants.{Debug}
use Rattle.educe_attrs.specs.Among.{IsAmong}
use Rattle.educe_attrs.specs.Debug as debug
use Rattle.educe_attrs.specs.FieldSettings.{FieldSettings}
use Rattle.educe_attrs.specs.Fields.{settings_at, HaveNoCauses}
use Rattle.educe_attrs.specs.IdentOrBool.TheVariants as said
use Rattle.educe_attrs.specs.Places.{place_settings, IsSaid, IsFieldSaid, IsFieldCause}
use Rattle.educe_attrs.specs.Row.{Row}
use Rattle.educe_attrs.specs.Said.{IsSaidCause}
use Rattle.educe_attrs.specs.Values.{Values}
use Rattle.educe_attrs.specs.declared.debug.FieldName.TheVariants as field_name
use Rattle.educe_attrs.specs.declared.debug.TypeName.{TypeName}
use Rattle.educe_attrs.specs.declared.debug.TypeName.TheVariants as type_name
use Rattle.educe_settings.specs.Cases.{is_unit, fields_in}
use Rattle.educe_settings.specs.Listed.{listed}
use Rattle.educe_settings.specs.Rows.{struct_names, variant_names, own_type_name, type_row}
use Rattle.educe_settings.specs.Settings.{Kept, kept_by, keeps, type_settings, AreSettings, AreFieldSettings}

-- ---- the forms of the attribute

-- At a variant a name, also behind `=`, and whether the names of its fields are shown.
abbrev pub naming_row : Variant → Row
naming_row variant =
    debug.type_row (record { enable_flag = false; enable_name = true; enable_named_field = true; enable_bound = false; name = type_name.Default; named_field = variant_names variant.fields.form })

-- At a field `ignore` and `method`, and where the names of fields are shown its name.
abbrev pub entry_row : Bool → Row
entry_row named = debug.field_row (record { enable_name = named; enable_ignore = true; enable_method = true; name = field_name.Default })

-- ---- what is said

-- What the attributes of a variant say.
abbrev pub naming_values : DeriveInput → Variant → Values
naming_values definition variant = place_settings Debug (naming_row variant) (listed definition) variant.attrs

-- What the attributes of a field say, where the names of fields are shown or not.
abbrev pub entry_settings : Bool → DeriveInput → Field → FieldSettings
entry_settings named definition = settings_at Debug (entry_row named) (listed definition)

-- ---- names

-- The text of a name: its own, the given one, or none.
abbrev pub name_text : Ident → TypeName → List ℕ
name_text own type_name.Disable = []
name_text own type_name.Default = own.text
name_text own (type_name.Custom name) = name.text

-- The name of the type that is shown, where it says this: of a struct its own if nothing else is said, of an enum none.
abbrev pub type_text : DeriveInput → Values → List ℕ
type_text definition own = name_text definition.ident (debug.type_name_of (own_type_name definition.shape) own.name)

-- The name of a variant that is shown, where it says this: its own if nothing else is said.
abbrev pub variant_text : Variant → Values → List ℕ
variant_text variant values = name_text variant.ident (debug.type_name_of type_name.Default values.name)

-- Two names, with `::` between where both are shown.
abbrev pub path_text : List ℕ → List ℕ → List ℕ
path_text [] last = last
path_text (c ∷ first) [] = c ∷ first
path_text (c ∷ first) (d ∷ last) = (c ∷ first) ++ codes "::" ++ d ∷ last

-- ---- cases

-- How the values of a case are shown: whether it is a unit variant, which name is shown, which may be empty, whether the names of its
-- fields are, and its fields.
pub record ShownCase : Type 0 where
  pub unit : Bool
  pub name : List ℕ
  pub named : Bool
  pub fields : List Field

-- How the values of a struct are shown, where the attributes of the type say this.
abbrev pub struct_case : DeriveInput → Values → FieldShape → ShownCase
struct_case definition own shape = record {
  unit = false;
  name = type_text definition own;
  named = unwrap_or own.named_field (struct_names shape.form);
  fields = shape.fields;
}

-- How the values of a variant are shown, where the attributes of the type and of the variant say this.
abbrev pub variant_case : DeriveInput → Values → Variant → Values → ShownCase
variant_case definition own variant values = record {
  unit = is_unit variant;
  name = path_text (type_text definition own) (variant_text variant values);
  named = unwrap_or values.named_field (variant_names variant.fields.form);
  fields = fields_in variant;
}

-- How the values of a struct are shown.
abbrev pub struct_shown : DeriveInput → FieldShape → ShownCase
struct_shown definition shape = struct_case definition (type_settings Debug definition) shape

-- How the values of a variant are shown.
abbrev pub variant_shown : DeriveInput → Variant → ShownCase
variant_shown definition variant = variant_case definition (type_settings Debug definition) variant (naming_values definition variant)

-- How the values of the struct, or of each variant of the enum, are shown.
abbrev pub cases_for : DeriveInput → Shape → List ShownCase
cases_for definition (Struct shape) = struct_shown definition shape ∷ []
cases_for definition (Enum variants) = map (variant_shown definition) variants

-- How the values of each case of a definition are shown, in written order.
abbrev pub shown_cases : DeriveInput → List ShownCase
shown_cases definition = cases_for definition definition.shape

-- ---- fields

-- The fields of a case that are shown, in written order.
abbrev pub shown_fields : DeriveInput → ShownCase → List Kept
shown_fields definition case = kept_by 0 case.fields (map (entry_settings case.named definition) case.fields)

-- The fields of all cases that are shown, case by case.
abbrev pub all_shown : DeriveInput → List Kept
all_shown definition = flat_map (shown_fields definition) (shown_cases definition)

-- ---- what the settings are

-- Each of the fields of a case has the settings that its attributes say.
abbrev pub IsCaseSaid : DeriveInput → ShownCase → Type 0
IsCaseSaid definition case =
    AllByRecursion (λ (field : Field). IsFieldSaid Debug (entry_row case.named) (listed definition) field.attrs (entry_settings case.named definition field)) case.fields

-- The settings of the type, of each variant and of each field are what their attributes say of `Debug`, by the forms
-- that are allowed there.
pub record AreShownSaid (definition : DeriveInput) : Type 0 where
  pub type_said : IsSaid Debug (type_row Debug definition) definition.attrs (type_settings Debug definition)
  pub variants_said : AllByRecursion (λ (variant : Variant). IsSaid Debug (naming_row variant) variant.attrs (naming_values definition variant)) (variants_of definition)
  pub fields_said : AllByRecursion (IsCaseSaid definition) (shown_cases definition)

-- No field of the case says something wrong.
abbrev pub IsCaseRead : DeriveInput → ShownCase → Type 0
IsCaseRead definition case = HaveNoCauses Debug (entry_row case.named) (listed definition) case.fields

-- No field of any case says something wrong.
abbrev pub AreCasesRead : DeriveInput → Type 0
AreCasesRead definition = AllByRecursion (IsCaseRead definition) (shown_cases definition)

-- ---- why it is rejected

-- The attributes of the type have no cause of a rejection, and they say this.
abbrev pub AreTypeSettings : DeriveInput → Values → Type 0
AreTypeSettings definition own = AreSettings Debug (type_row Debug definition) definition definition.attrs own

-- The attributes of a variant have no cause of a rejection, and they say this.
abbrev pub AreNamingSettings : DeriveInput → Variant → Values → Type 0
AreNamingSettings definition variant values = AreSettings Debug (naming_row variant) definition variant.attrs values

-- The attributes of a field have no cause of a rejection, where the names of fields are shown or not, and they say this.
abbrev pub AreEntrySettings : DeriveInput → Bool → Field → FieldSettings → Type 0
AreEntrySettings definition named field settings = AreFieldSettings Debug (entry_row named) definition field settings

-- The case is that of a struct.
pub record IsStructCase (definition : DeriveInput) (case : ShownCase) : Type 0 where
  pub own : Values
  pub shape : FieldShape
  pub settings : AreTypeSettings definition own
  pub is : definition.shape ≡ Struct shape
  pub case_is : case ≡ struct_case definition own shape

-- The case is that of a variant of an enum.
pub record IsVariantCase (definition : DeriveInput) (variant : Variant) (case : ShownCase) : Type 0 where
  pub own : Values
  pub values : Values
  pub variants : List Variant
  pub settings : AreTypeSettings definition own
  pub is : definition.shape ≡ Enum variants
  pub among : IsAmong variant variants
  pub variant_settings : AreNamingSettings definition variant values
  pub case_is : case ≡ variant_case definition own variant values

-- The case is that of the struct, or of a variant.
pub data IsCase (definition : DeriveInput) (case : ShownCase) : Type 0 where
  of_struct : IsStructCase definition case → IsCase definition case
  of_variant : (variant : Variant) → IsVariantCase definition variant case → IsCase definition case

-- The field is not shown.
pub record IsIgnored (definition : DeriveInput) (named : Bool) (field : Field) : Type 0 where
  pub all : FieldSettings
  pub settings : AreEntrySettings definition named field all
  pub ignored : keeps all ≡ false

-- No name is shown of the case, and none of its fields is.
pub record IsNameless (definition : DeriveInput) (case : ShownCase) : Type 0 where
  pub nameless : case.name ≡ []
  pub fieldless : AllByRecursion (IsIgnored definition case.named) case.fields

-- No name is shown of an enum without variants.
pub record IsNamelessEnum (definition : DeriveInput) : Type 0 where
  pub own : Values
  pub settings : AreTypeSettings definition own
  pub is : definition.shape ≡ Enum []
  pub nameless : type_text definition own ≡ []

-- The error for a name that is needed.
abbrev pub name_needed : Kind → Span → EduceError
name_needed kind place = record { kind = kind; span = place; words = [] }

-- Why `Debug` is rejected: what the type says of it is; what a variant or a field says of it is, by the forms that are allowed there;
-- neither a name nor a field is shown of a struct, or of a variant that has brackets; or no name is shown of a unit variant, or of an
-- enum without variants.
pub data IsShownCause (definition : DeriveInput) : EduceError → Type 0 where
  by_type : {e : EduceError} → IsSaidCause Debug (type_row Debug definition) definition.attrs e → IsShownCause definition e
  by_variant : {e : EduceError} (variant : Variant) → IsAmong variant (variants_of definition) → IsSaidCause Debug (naming_row variant) variant.attrs e
      → IsShownCause definition e
  by_field : {e : EduceError} (case : ShownCase) (field : Field) → IsCase definition case → IsAmong field case.fields
      → IsFieldCause Debug (entry_row case.named) (listed definition) field.attrs e → IsShownCause definition e
  by_struct : (case : ShownCase) → IsStructCase definition case → IsNameless definition case → IsShownCause definition (name_needed UnitStructNeedName definition.ident.span)
  by_bracketed_variant : (variant : Variant) (case : ShownCase) → IsVariantCase definition variant case → case.unit ≡ false → IsNameless definition case
      → IsShownCause definition (name_needed UnitStructNeedName variant.ident.span)
  by_unit_variant : (variant : Variant) (case : ShownCase) → IsVariantCase definition variant case → case.unit ≡ true → case.name ≡ []
      → IsShownCause definition (name_needed UnitVariantNeedName variant.span)
  by_empty_enum : IsNamelessEnum definition → IsShownCause definition (name_needed UnitEnumNeedName definition.ident.span)

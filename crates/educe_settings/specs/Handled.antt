-- Why the handlers of the listed traits reject a definition.
use Rattle.std.specs.Prelude.{◌≡◌, ◌⊎◌, ℤ, true, IsTrue, List, [], ◌∷◌, ◌++◌}
use Rattle.educe_tokens.specs.declared.error.EduceError.{EduceError}
use Rattle.educe_tokens.specs.declared.error.Kind.TheVariants.{ReuseARank}
use Rattle.educe_tokens.specs.declared.span.Span.{Span}
use Rattle.educe_syntax.specs.Attribute.{Attribute}
use Rattle.educe_syntax.specs.DeriveInput.{DeriveInput}
use Rattle.educe_syntax.specs.Field.{Field}
use Rattle.educe_syntax.specs.Shape.{Shape}
use Rattle.educe_syntax.specs.Shape.TheVariants.{Struct, Enum}
use Rattle.educe_bound_traits.specs.declared.traits.Trait.{Trait}
use Rattle.educe_bound_traits.specs.declared.traits.Trait.TheVariants as trait
use Rattle.educe_bound_traits.specs.Traits.{is_listed}
use Rattle.educe_attrs.specs.Among.{IsAmong}
use Rattle.educe_attrs.specs.Causes.{Cause}
use Rattle.educe_attrs.specs.Fields.{OfFields, HaveNoCauses}
use Rattle.educe_attrs.specs.Phases.{Handling, OfLast}
use Rattle.educe_attrs.specs.Places.{IsFieldCause, OfPlace}
use Rattle.educe_attrs.specs.Said.{IsPlaceCause, IsSaidCause}
use Rattle.educe_syntax.specs.Few.{variants_of, all_fields}
use Rattle.educe_syntax.specs.Variant.{Variant}
use Rattle.educe_settings.specs.Cases.{fields_in, cases_of, variant_attributes, field_attributes}
use Rattle.educe_settings.specs.Defaults.{IsDefaultCause}
use Rattle.educe_settings.specs.Listed.{listed}
use Rattle.educe_settings.specs.Rows.{is_order, type_row, variant_row, field_row}
use Rattle.educe_settings.specs.Settings.{Kept, kept_fields, ReusesARank}
use Rattle.educe_settings.specs.Shown.{IsShownCause}

-- The error for a repeated rank.
abbrev pub reuse_of : ℤ → Span → EduceError
reuse_of rank place = record { kind = ReuseARank rank; span = place; words = [] }

-- The attributes of the places of a definition: of the type, of each variant, and of each field.
abbrev pub places : DeriveInput → List (List Attribute)
places definition = definition.attrs ∷ variant_attributes definition ++ field_attributes definition

-- Why the `educe` lists of one of the places are rejected, whatever the trait.
pub record IsListsCause (definition : DeriveInput) (e : EduceError) : Type 0 where
  pub attributes : List Attribute
  pub stand : IsAmong attributes (places definition)
  pub cause : IsPlaceCause (listed definition) attributes e

-- Two of these fields have one rank.
pub record IsReuse (kept : List Kept) (e : EduceError) : Type 0 where
  pub rank : ℤ
  pub place : Span
  pub reuses : ReusesARank kept rank place
  pub is : e ≡ reuse_of rank place

-- The trait is an order, two of these fields that take part have one rank, and no field of them is rejected for it.
pub record IsRankCause (which : Trait) (definition : DeriveInput) (fields : List Field) (e : EduceError) : Type 0 where
  pub orders : IsTrue (is_order which)
  pub read : HaveNoCauses which (field_row which) (listed definition) fields
  pub reuse : IsReuse (kept_fields which definition fields) e

-- Why a trait is rejected whose attributes are read field by field: what the type says of it is; what a variant says of it is; what a
-- field says of it is; where it is an order, two fields of one case that take part have one rank; or where it is `Clone`, what the
-- type says of `Copy` is, if that is listed.
pub data IsFieldwiseCause (which : Trait) (definition : DeriveInput) : EduceError → Type 0 where
  by_type : {e : EduceError} → IsSaidCause which (type_row which definition) definition.attrs e → IsFieldwiseCause which definition e
  by_variant : {e : EduceError} (variant : Variant) → IsAmong variant (variants_of definition)
      → IsSaidCause which (variant_row which) variant.attrs e → IsFieldwiseCause which definition e
  by_field : {e : EduceError} (field : Field) → IsAmong field (all_fields definition)
      → IsFieldCause which (field_row which) (listed definition) field.attrs e → IsFieldwiseCause which definition e
  by_rank : {e : EduceError} (fields : List Field) → IsAmong fields (cases_of definition) → IsRankCause which definition fields e
      → IsFieldwiseCause which definition e
  by_copy : {e : EduceError} → which ≡ trait.Clone → is_listed (listed definition) trait.Copy ≡ true
      → IsSaidCause trait.Copy (type_row trait.Copy definition) definition.attrs e → IsFieldwiseCause which definition e

-- Why the fields of a case are rejected: one of them is, or a rank.
abbrev pub OfCase : Trait → DeriveInput → List Field → Cause
OfCase which definition fields = λ e. OfFields which (field_row which) (listed definition) fields e ⊎ IsRankCause which definition fields e

-- Why a variant is rejected: its own attributes are, or its fields.
abbrev pub OfVariant : Trait → DeriveInput → Variant → Cause
OfVariant which definition variant =
    λ e. OfPlace which (variant_row which) (listed definition) variant.attrs e ⊎ OfCase which definition (fields_in variant) e

-- Why what stands behind the name of a definition is rejected: the fields of a struct are, or one of the variants of an enum.
abbrev pub OfShape : Trait → DeriveInput → Shape → Cause
OfShape which definition (Struct shape) = OfCase which definition shape.fields
OfShape which definition (Enum variants) = λ e. (variant : Variant) × IsAmong variant variants × OfVariant which definition variant e

-- Why a trait is rejected: field by field, or by the causes of `Default` or `Debug`.
abbrev pub IsTraitCause : DeriveInput → Trait → Cause
IsTraitCause definition trait.Clone = IsFieldwiseCause trait.Clone definition
IsTraitCause definition trait.Copy = IsFieldwiseCause trait.Copy definition
IsTraitCause definition trait.PartialEq = IsFieldwiseCause trait.PartialEq definition
IsTraitCause definition trait.Eq = IsFieldwiseCause trait.Eq definition
IsTraitCause definition trait.PartialOrd = IsFieldwiseCause trait.PartialOrd definition
IsTraitCause definition trait.Ord = IsFieldwiseCause trait.Ord definition
IsTraitCause definition trait.Hash = IsFieldwiseCause trait.Hash definition
IsTraitCause definition trait.Debug = IsShownCause definition
IsTraitCause definition trait.Default = IsDefaultCause definition

-- The causes of the lists and of each trait, as those of the last phase are made of them.
abbrev pub handling : DeriveInput → Handling
handling definition = record { InLists = IsListsCause definition; Own = IsTraitCause definition }

-- Why a listed trait is rejected: the `educe` lists of a place are, whatever the trait; or the trait is.
abbrev pub IsListedCause : DeriveInput → Cause
IsListedCause definition = OfLast (handling definition) (listed definition)

-- What is read of a definition for `Default`, and how a variant is chosen by the marks.
use Rattle.std.specs.Prelude.{ℕ, ◌≡◌, ◌+◌, Bool, true, false, List, [], ◌∷◌, ◌++◌, Option, Some, None, if◌then◌else◌}
use Rattle.std.specs.List.{AllByRecursion}
use Rattle.educe_tokens.specs.declared.error.EduceError.{EduceError}
use Rattle.educe_tokens.specs.declared.span.Span.{Span}
use Rattle.educe_syntax.specs.DeriveInput.{DeriveInput}
use Rattle.educe_syntax.specs.Field.{Field}
use Rattle.educe_syntax.specs.Shape.{Shape}
use Rattle.educe_syntax.specs.Shape.TheVariants.{Struct, Enum}
use Rattle.educe_syntax.specs.Variant.{Variant}
use Rattle.educe_bound_traits.specs.declared.traits.Trait.{Trait}
use Rattle.educe_bound_traits.specs.declared.traits.Trait.TheVariants.{Default}
use Rattle.educe_attrs.specs.Causes.{NoCause}
use Rattle.educe_attrs.specs.Fields.{settings_at, HaveNoCauses}
use Rattle.educe_attrs.specs.FieldSettings.{FieldSettings}
use Rattle.educe_attrs.specs.Places.{OfPlace}
use Rattle.educe_attrs.specs.Values.{Values}
use Rattle.educe_settings.specs.Cases.{fields_in}
use Rattle.educe_settings.specs.Defaults.{mark_row, value_row, type_values, is_open, is_written, is_one, AreTypeSettings, marked_again, none_marked}
use Rattle.educe_settings.specs.Listed.{listed}

-- ---- what is read

-- The listed traits are those of the definition; the attributes of its type have no cause; and with true they say no value of the whole
-- type.
pub record IsTyped (definition : DeriveInput) (traits : List Trait) (bare : Bool) : Type 0 where
  pub traits_are : traits ≡ listed definition
  pub own : AreTypeSettings definition (type_values definition)
  pub bare_is : bare ≡ is_open definition

-- What the attributes of a field say, where `default` writes it or does not.
abbrev pub settings_by : Bool → DeriveInput → Field → FieldSettings
settings_by written definition field = settings_at Default (value_row written) (listed definition) field

-- The attributes of these fields have no cause.
abbrev pub AreFieldsRead : Bool → DeriveInput → List Field → Type 0
AreFieldsRead written definition fields = HaveNoCauses Default (value_row written) (listed definition) fields

-- The attributes of the fields of the struct, or of each variant of the enum, have no cause.
abbrev pub AreRead : DeriveInput → Shape → Type 0
AreRead definition (Struct shape) = AreFieldsRead (is_open definition) definition shape.fields
AreRead definition (Enum variants) = AllByRecursion (λ variant. AreFieldsRead (is_written definition variants variant) definition (fields_in variant)) variants

-- The attributes of a variant have no cause.
abbrev pub IsMarkRead : DeriveInput → Variant → Type 0
IsMarkRead definition variant = NoCause (OfPlace Default (mark_row (is_open definition)) (listed definition) variant.attrs)

-- The attributes of each of these variants have no cause.
abbrev pub AreMarksRead : DeriveInput → List Variant → Type 0
AreMarksRead definition variants = AllByRecursion (IsMarkRead definition) variants

-- ---- the choice by marks

-- The places of the marks, of those that begin at a place.
abbrev pub places_from : ℕ → List Values → List ℕ
places_from place [] = []
places_from place (m ∷ ms) = if m.flag then place ∷ places_from (place + 1) ms else places_from (place + 1) ms

-- The place that is found, as a list; without one the list is empty.
abbrev pub found_only : Option ℕ → List ℕ
found_only None = []
found_only (Some place) = place ∷ []

-- Two of them are marks, and the later one stands there.
pub record AreTwice (marks : List Values) (span : Span) : Type 0 where
  pub front : List Values
  pub first : Values
  pub between : List Values
  pub later : Values
  pub back : List Values
  pub are : marks ≡ (front ++ first ∷ between) ++ later ∷ back
  pub first_flag : first.flag ≡ true
  pub later_flag : later.flag ≡ true
  pub span_is : span ≡ later.span

-- The position of the only variant, or of the only mark.
pub data IsOnly (marks : List Values) : ℕ → Type 0 where
  alone : is_one marks ≡ true → IsOnly marks 0
  marked : (place : ℕ) → is_one marks ≡ false → places_from 0 marks ≡ place ∷ [] → IsOnly marks place

-- Why there is none: two are marks; or none is, and there is not only one.
pub data IsNone (marks : List Values) (span : Span) : EduceError → Type 0 where
  twice : (place : Span) → AreTwice marks place → IsNone marks span (marked_again place)
  never : is_one marks ≡ false → places_from 0 marks ≡ [] → IsNone marks span (none_marked span)

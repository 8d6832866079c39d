-- What the attributes of a definition say of `Default`, which value it makes, and why it is rejected.
use Rattle.std.specs.Prelude.{ℕ, ◌≡◌, ◌+◌, Bool, true, false, ◌&&◌, ◌||◌, List, [], ◌∷◌, ◌++◌, Option, Some, None, is_none, if◌then◌else◌}
use Rattle.std.specs.List.{AllByRecursion, filter_map}
use Rattle.educe_tokens.specs.declared.error.EduceError.{EduceError}
use Rattle.educe_tokens.specs.declared.error.Kind.TheVariants.{MultipleDefaultVariants, NoDefaultVariant}
use Rattle.educe_tokens.specs.declared.span.Span.{Span}
use Rattle.educe_syntax.specs.DeriveInput.{DeriveInput}
use Rattle.educe_syntax.specs.Expr.{Expr}
use Rattle.educe_syntax.specs.Few.{variants_of}
use Rattle.educe_syntax.specs.Field.{Field}
use Rattle.educe_syntax.specs.FieldShape.{FieldShape}
use Rattle.educe_syntax.specs.Shape.{Shape}
use Rattle.educe_syntax.specs.Shape.TheVariants.{Struct, Enum}
use Rattle.educe_syntax.specs.Ty.{Ty}
use Rattle.educe_syntax.specs.Variant.{Variant}
use Rattle.educe_bound_traits.specs.declared.traits.Trait.TheVariants.{Default}
use Rattle.educe_attrs.specs.Among.{IsAmong}
use Rattle.educe_attrs.specs.Default as default
use Rattle.educe_attrs.specs.Fields.{settings_at}
use Rattle.educe_attrs.specs.Places.{place_settings, IsSaid, IsFieldSaid, IsFieldCause}
use Rattle.educe_attrs.specs.Row.{Row}
use Rattle.educe_attrs.specs.Said.{IsSaidCause}
use Rattle.educe_attrs.specs.Values.{Values}
use Rattle.educe_settings.specs.Cases.{fields_in}
use Rattle.educe_settings.specs.Listed.{listed}
use Rattle.educe_settings.specs.Rows.{type_row}
use Rattle.educe_settings.specs.Settings.{type_settings, AreSettings}

-- ---- the forms of the attribute

-- At a variant the trait alone, which marks it, where the type has no value of its own; else nothing.
abbrev pub mark_row : Bool → Row
mark_row bare = default.type_row (record { enable_flag = bare; enable_new = false; enable_expression = false; enable_bound = false })

-- At a field that `default` writes: its value, also behind `=`; at any other nothing.
abbrev pub value_row : Bool → Row
value_row written = default.field_row (record { enable_flag = false; enable_expression = written })

-- ---- what is said

-- What the attributes of the type say.
abbrev pub type_values : DeriveInput → Values
type_values definition = type_settings Default definition

-- The type has no value of its own, so that fields are written.
abbrev pub is_open : DeriveInput → Bool
is_open definition = is_none (type_values definition).expression

-- What the attributes of a variant say.
abbrev pub mark_values : DeriveInput → Variant → Values
mark_values definition variant = place_settings Default (mark_row (is_open definition)) (listed definition) variant.attrs

-- The variant is marked.
abbrev pub is_marked : DeriveInput → Variant → Bool
is_marked definition variant = (mark_values definition variant).flag

-- The list has exactly one element.
abbrev pub is_one : {X : Type 0} → List X → Bool
is_one [] = false
is_one (x ∷ []) = true
is_one (x ∷ y ∷ more) = false

-- `default` writes the fields of a variant: where the type has no value of its own, and the variant is the only one of these or is marked.
abbrev pub is_written : DeriveInput → List Variant → Variant → Bool
is_written definition variants variant = is_open definition && (is_one variants || is_marked definition variant)

-- The value that the attributes of a field say, if `default` writes it or not.
abbrev pub value_at : Bool → DeriveInput → Field → Option Expr
value_at written definition field = (settings_at Default (value_row written) (listed definition) field).values.expression

-- Each of these fields has the settings that its attributes say, where `default` writes them or does not.
abbrev pub AreFieldsSaid : Bool → DeriveInput → List Field → Type 0
AreFieldsSaid written definition fields =
    AllByRecursion (λ (field : Field). IsFieldSaid Default (value_row written) (listed definition) field.attrs (settings_at Default (value_row written) (listed definition) field)) fields

-- Each field of a struct, or of each variant of an enum, has the settings that its attributes say.
abbrev pub AreShapeSaid : DeriveInput → Shape → Type 0
AreShapeSaid definition (Struct shape) = AreFieldsSaid (is_open definition) definition shape.fields
AreShapeSaid definition (Enum variants) = AllByRecursion (λ variant. AreFieldsSaid (is_written definition variants variant) definition (fields_in variant)) variants

-- The settings of the type, of each variant and of each field are what their attributes say of `Default`, by the forms
-- that are allowed there.
pub record AreDefaultsSaid (definition : DeriveInput) : Type 0 where
  pub type_said : IsSaid Default (type_row Default definition) definition.attrs (type_values definition)
  pub variants_said : AllByRecursion (λ (variant : Variant). IsSaid Default (mark_row (is_open definition)) variant.attrs (mark_values definition variant)) (variants_of definition)
  pub fields_said : AreShapeSaid definition definition.shape

-- ---- which value is made

-- The value that the type says for itself; a struct, with its fields; or the variant at a place.
pub data Choice : Type 0 where
  by_value : Expr → Choice
  of_struct : FieldShape → Choice
  of_variant : ℕ → Variant → Choice

-- The variants that are marked, of those that begin at a place, with their places.
abbrev pub marked_from : DeriveInput → ℕ → List Variant → List (ℕ × Variant)
marked_from definition place [] = []
marked_from definition place (v ∷ vs) =
    if is_marked definition v then (place, v) ∷ marked_from definition (place + 1) vs else marked_from definition (place + 1) vs

-- The one that is marked; none where none is, or two are.
abbrev pub only_one : List (ℕ × Variant) → Option Choice
only_one [] = None
only_one (found ∷ []) = Some (of_variant found.0 found.1)
only_one (found ∷ other ∷ more) = None

-- The only variant, or else the one that is marked.
abbrev pub chosen_variant : DeriveInput → List Variant → Option Choice
chosen_variant definition [] = None
chosen_variant definition (v ∷ []) = Some (of_variant 0 v)
chosen_variant definition (v ∷ w ∷ more) = only_one (marked_from definition 0 (v ∷ w ∷ more))

-- By the value that the type says for itself.
abbrev pub choice_by : DeriveInput → Option Expr → Shape → Option Choice
choice_by definition (Some value) shape = Some (by_value value)
choice_by definition None (Struct shape) = Some (of_struct shape)
choice_by definition None (Enum variants) = chosen_variant definition variants

-- What `default` makes, if it is determined: the type's own value if it has one; otherwise the struct, or the variant that is
-- chosen.
abbrev pub choice_of : DeriveInput → Option Choice
choice_of definition = choice_by definition (type_values definition).expression definition.shape

-- The fields that `default` writes.
abbrev pub written_fields : Option Choice → List Field
written_fields None = []
written_fields (Some (by_value value)) = []
written_fields (Some (of_struct shape)) = shape.fields
written_fields (Some (of_variant place variant)) = fields_in variant

-- The value that the attributes of a field say that `default` writes.
abbrev pub field_value : DeriveInput → Field → Option Expr
field_value definition field = value_at true definition field

-- The type of a field whose attributes say no value.
abbrev pub type_without : Field → Option Expr → Option Ty
type_without field None = Some field.ty
type_without field (Some value) = None

-- The types of those that are written by `Default` of their type.
abbrev pub default_types : DeriveInput → List Ty
default_types definition = filter_map (λ field. type_without field (field_value definition field)) (written_fields (choice_of definition))

-- ---- why it is rejected

-- The attributes of the type have no cause of a rejection, and they say this.
abbrev pub AreTypeSettings : DeriveInput → Values → Type 0
AreTypeSettings definition values = AreSettings Default (type_row Default definition) definition definition.attrs values

-- The attributes of a variant of a type with these settings have no cause of a rejection, and they say this.
abbrev pub AreMarkSettings : DeriveInput → Values → Variant → Values → Type 0
AreMarkSettings definition own variant values = AreSettings Default (mark_row (is_none own.expression)) definition variant.attrs values

-- The fields of a case, and whether `default` writes them: those of a struct, or of a variant.
pub data IsCase (definition : DeriveInput) : List Field → Bool → Type 0 where
  of_struct : (own : Values) (shape : FieldShape) → AreTypeSettings definition own → definition.shape ≡ Struct shape → IsCase definition shape.fields (is_none own.expression)
  of_variant : (own mark : Values) (variants : List Variant) (variant : Variant) → AreTypeSettings definition own → definition.shape ≡ Enum variants → IsAmong variant variants
      → AreMarkSettings definition own variant mark → IsCase definition (fields_in variant) (is_none own.expression && (is_one variants || mark.flag))

-- The definition is an enum of these variants, whose attributes, with these settings, say no value of the whole type.
pub record IsOpenEnum (definition : DeriveInput) (own : Values) (variants : List Variant) : Type 0 where
  pub settings : AreTypeSettings definition own
  pub no_value : own.expression ≡ None
  pub is : definition.shape ≡ Enum variants

-- The attributes of a variant mark it, and this is where the mark stands.
pub record IsMarkedAt (definition : DeriveInput) (own : Values) (variant : Variant) (place : Span) : Type 0 where
  pub mark : Values
  pub settings : AreMarkSettings definition own variant mark
  pub flag : mark.flag ≡ true
  pub place_is : place ≡ mark.span

-- The attributes of a variant do not mark it.
pub record IsUnmarked (definition : DeriveInput) (own : Values) (variant : Variant) : Type 0 where
  pub mark : Values
  pub settings : AreMarkSettings definition own variant mark
  pub flag : mark.flag ≡ false

-- Two variants are marked, and this is where the mark of the later one stands.
pub record AreMarkedTwice (definition : DeriveInput) (place : Span) : Type 0 where
  pub own : Values
  pub variants : List Variant
  pub chooses : IsOpenEnum definition own variants
  pub front : List Variant
  pub first : Variant
  pub between : List Variant
  pub later : Variant
  pub back : List Variant
  pub are : variants ≡ (front ++ first ∷ between) ++ later ∷ back
  pub first_place : Span
  pub first_marked : IsMarkedAt definition own first first_place
  pub later_marked : IsMarkedAt definition own later place

-- No variant is marked, and there is not only one; this is where the attribute of the type stands.
pub record IsNoneMarked (definition : DeriveInput) (place : Span) : Type 0 where
  pub own : Values
  pub variants : List Variant
  pub chooses : IsOpenEnum definition own variants
  pub not_one : is_one variants ≡ false
  pub unmarked : AllByRecursion (IsUnmarked definition own) variants
  pub place_is : place ≡ own.span

-- The error for a second mark.
abbrev pub marked_again : Span → EduceError
marked_again place = record { kind = MultipleDefaultVariants; span = place; words = [] }

-- The error for no mark.
abbrev pub none_marked : Span → EduceError
none_marked place = record { kind = NoDefaultVariant; span = place; words = [] }

-- Why `Default` is rejected: what the type says of it is; what a variant or a field says of it is, by the forms that are allowed there; or,
-- of an enum whose attributes say no value of the whole type, two variants are marked, or none is and there is not only one.
pub data IsDefaultCause (definition : DeriveInput) : EduceError → Type 0 where
  by_type : {e : EduceError} → IsSaidCause Default (type_row Default definition) definition.attrs e → IsDefaultCause definition e
  by_variant : {e : EduceError} (own : Values) (variant : Variant) → AreTypeSettings definition own → IsAmong variant (variants_of definition)
      → IsSaidCause Default (mark_row (is_none own.expression)) variant.attrs e → IsDefaultCause definition e
  by_field : {e : EduceError} (fields : List Field) (written : Bool) (field : Field) → IsCase definition fields written → IsAmong field fields
      → IsFieldCause Default (value_row written) (listed definition) field.attrs e → IsDefaultCause definition e
  by_marks : (place : Span) → AreMarkedTwice definition place → IsDefaultCause definition (marked_again place)
  by_no_mark : (place : Span) → IsNoneMarked definition place → IsDefaultCause definition (none_marked place)

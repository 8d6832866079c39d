-- What decides whether `clone` copies values as a whole.
use Rattle.std.specs.Prelude.{◌≡◌, Bool, true, not, ◌&&◌, ◌||◌, List}
use Rattle.std.specs.List.{list_all}
use Rattle.educe_tokens.specs.declared.error.EduceError.{EduceError}
use Rattle.educe_syntax.specs.DeriveInput.{DeriveInput}
use Rattle.educe_syntax.specs.Field.{Field}
use Rattle.educe_syntax.specs.GenericParam.{GenericParam}
use Rattle.educe_syntax.specs.Shape.{Shape}
use Rattle.educe_syntax.specs.Shape.TheVariants.{Struct, Enum}
use Rattle.educe_bound_classes.specs.Questions.{uses_params}
use Rattle.educe_attrs.specs.Causes.{NoCause}
use Rattle.educe_attrs.specs.Places.{OfPlace}
use Rattle.educe_bound.specs.declared.bound.Bound.{Bound}
use Rattle.educe_bound_traits.specs.declared.traits.Trait.TheVariants as trait
use Rattle.educe_bound_traits.specs.Traits.{is_listed}
use Rattle.educe_settings.specs.Cases.{fields_in}
use Rattle.educe_settings.specs.Copying.{is_empty, has_predicates}
use Rattle.educe_settings.specs.Listed.{listed}
use Rattle.educe_settings.specs.Rows.{type_row}
use Rattle.educe_settings.specs.Settings.{bound_for}

-- The type of the field names none of the type and const parameters.
abbrev pub is_closed : List GenericParam → Field → Bool
is_closed params field = not (uses_params params field.ty)

-- The types of all fields name none of the type and const parameters.
abbrev pub is_closed_shape : List GenericParam → Shape → Bool
is_closed_shape params (Struct shape) = list_all (is_closed params) shape.fields
is_closed_shape params (Enum variants) = list_all (λ v. list_all (is_closed params) (fields_in v)) variants

-- The definition has no generic parameter, or the bound lists no predicate.
abbrev pub is_unbounded : DeriveInput → Bound → Bool
is_unbounded definition bound = is_empty definition.generics.params || not (has_predicates bound)

-- `clone` copies the value as a whole, by whether a field has a method of `Clone`.
abbrev pub copies_with : DeriveInput → Bool → Bool
copies_with definition has_method =
    is_listed (listed definition) trait.Copy && (not has_method && is_closed_shape definition.generics.params definition.shape)
    && is_unbounded definition (bound_for trait.Copy definition)

-- Where `Copy` is listed, nothing that the type says of it is wrong.
abbrev pub IsCopyUncaused : DeriveInput → Type 0
IsCopyUncaused definition =
    is_listed (listed definition) trait.Copy ≡ true → NoCause (OfPlace trait.Copy (type_row trait.Copy definition) (listed definition) definition.attrs)

-- A cause of a rejection in what the type says of `Copy`, where `Copy` is listed.
abbrev pub OfCopy : DeriveInput → EduceError → Type 0
OfCopy definition e = (is_listed (listed definition) trait.Copy ≡ true) × OfPlace trait.Copy (type_row trait.Copy definition) (listed definition) definition.attrs e

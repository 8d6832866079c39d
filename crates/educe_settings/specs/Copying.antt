-- Where the derived `clone` copies a value as a whole (documentation of `educe`, Clone).
use Rattle.std.specs.Prelude.{Bool, true, false, not, ◌&&◌, ◌||◌, List, [], ◌∷◌, is_none}
use Rattle.std.specs.List.{list_all}
use Rattle.educe_syntax.specs.DeriveInput.{DeriveInput}
use Rattle.educe_syntax.specs.Few.{all_fields}
use Rattle.educe_syntax.specs.Field.{Field}
use Rattle.educe_bound_classes.specs.Questions.{uses_params}
use Rattle.educe_bound.specs.declared.bound.Bound.{Bound}
use Rattle.educe_bound.specs.declared.bound.Bound.TheVariants.{Disabled, Auto, All, Custom}
use Rattle.educe_bound_traits.specs.declared.traits.Trait.TheVariants as trait
use Rattle.educe_bound_traits.specs.Traits.{is_listed}
use Rattle.educe_settings.specs.Listed.{listed}
use Rattle.educe_settings.specs.Settings.{settings_of, bound_for}

-- The list is empty.
abbrev pub is_empty : {X : Type 0} → List X → Bool
is_empty [] = true
is_empty (x ∷ xs) = false

-- The bound lists predicates, and at least one.
abbrev pub has_predicates : Bound → Bool
has_predicates Disabled = false
has_predicates Auto = false
has_predicates All = false
has_predicates (Custom predicates) = not (is_empty predicates)

-- The type of the field names no type or const parameter, and the field has no method.
abbrev pub is_bitwise : DeriveInput → Field → Bool
is_bitwise definition field =
    is_none (settings_of trait.Clone definition field).values.method && not (uses_params definition.generics.params field.ty)

-- `clone` copies the value as a whole: `Copy` is listed; no field has a method of `Clone`, and none a type that names a type or const
-- parameter; and the definition has no generic parameter, or `Copy` lists no predicate of its own.
abbrev pub copies_whole : DeriveInput → Bool
copies_whole definition =
    is_listed (listed definition) trait.Copy && list_all (is_bitwise definition) (all_fields definition)
    && (is_empty definition.generics.params || not (has_predicates (bound_for trait.Copy definition)))

-- What `default` makes, with what the attributes of the fields say that it writes.
use Rattle.std.specs.Prelude.{ℕ, ◌≡◌, true, Some, map}
use Rattle.educe_syntax.specs.DeriveInput.{DeriveInput}
use Rattle.educe_settings.specs.Cases.{fields_in}
use Rattle.educe_settings.specs.Defaults.{by_value, of_struct, of_variant, choice_of}
use Rattle.educe_settings_types.specs.Defaults.{settings_by}
use Rattle.educe_settings_types.specs.declared.default_choice.Chosen.{Chosen}
use Rattle.educe_settings_types.specs.declared.default_choice.Chosen.TheVariants.{ByValue, OfStruct, OfVariant}

-- It is what the attributes choose, and the settings of its fields are what theirs say.
abbrev pub IsChosen : DeriveInput → Chosen → Type 0
IsChosen definition (ByValue said) = choice_of definition ≡ Some (by_value said)
IsChosen definition (OfStruct shape settings) =
    (choice_of definition ≡ Some (of_struct shape.now)) × (settings ≡ map (settings_by true definition) shape.now.fields)
IsChosen definition (OfVariant variant settings) =
    (place : ℕ) × (choice_of definition ≡ Some (of_variant place variant.now)) × (settings ≡ map (settings_by true definition) (fields_in variant.now))

-- What the fields of each case say.
use Rattle.std.specs.Prelude.{List, map}
use Rattle.educe_syntax.specs.DeriveInput.{DeriveInput}
use Rattle.educe_syntax.specs.Field.{Field}
use Rattle.educe_attrs.specs.FieldSettings.{FieldSettings}
use Rattle.educe_bound_traits.specs.declared.traits.Trait.{Trait}
use Rattle.educe_settings.specs.Settings.{settings_of}

-- The settings of the fields of each of these cases.
abbrev pub settings_in : Trait → DeriveInput → List (List Field) → List (List FieldSettings)
settings_in which definition cases = map (map (settings_of which definition)) cases

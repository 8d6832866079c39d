-- The settings of a trait at a list of fields.
use Rattle.std.specs.Prelude.{List}
use Rattle.std.specs.List.{AllByRecursion, AllZip}
use Rattle.educe_bound_traits.specs.declared.traits.Trait.{Trait}
use Rattle.educe_syntax.specs.Field.{Field}
use Rattle.educe_attrs_rows.specs.declared.row.Row.{Row}
use Rattle.educe_attrs_rows.specs.Among.{IsAmong}
use Rattle.educe_attrs_places.specs.declared.place.FieldSettings.{FieldSettings}
use Rattle.educe_attrs_places.specs.Causes.{Cause, NoCause}
use Rattle.educe_attrs_places.specs.Places.{field_settings, IsFieldSaid, OfField}

-- The settings of a trait at one field.
abbrev pub settings_at : Trait → Row → List Trait → Field → FieldSettings
settings_at which row listed field = field_settings which row listed field.attrs

-- The settings of each field are what its attributes say.
abbrev pub AreFieldsSaid : Trait → Row → List Trait → List Field → List FieldSettings → Type 0
AreFieldsSaid which row listed fields all = AllZip (λ (field : Field) settings. IsFieldSaid which row listed field.attrs settings) fields all

-- The causes for which one of the fields is rejected.
abbrev pub OfFields : Trait → Row → List Trait → List Field → Cause
OfFields which row listed fields = λ e. (field : Field) × IsAmong field fields × OfField which row listed field.attrs e

-- None of the fields has a cause of rejection.
abbrev pub HaveNoCauses : Trait → Row → List Trait → List Field → Type 0
HaveNoCauses which row listed fields = AllByRecursion (λ (field : Field). NoCause (OfField which row listed field.attrs)) fields

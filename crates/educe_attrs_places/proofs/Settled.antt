-- Settings have their laws.
use Rattle.educe_attrs_places.specs.SettingLaws.{SettingLaws}
use Rattle.educe_attrs_places.proofs.FieldLaws as field
use Rattle.educe_attrs_places.proofs.Methods.{method_text}
use Rattle.educe_attrs_places.proofs.PlaceLaws as place
use Rattle.educe_attrs_places.proofs.SaysOne as row

pub lawful_settings : SettingLaws
lawful_settings = record {
  meta_only = row.says_one;
  place_said = place.settings_said;
  place_only = place.settings_only;
  field_said = field.settings_said;
  field_only = field.settings_only;
  methods = method_text;
}

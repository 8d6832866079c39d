use Rattle.std.proofs.Common.{◌≡◌, ◌∙◌, ◌++◌, true, [], ap, sym}
use Rattle.std.specs.List.{cons_option}
use Rattle.educe_attrs.specs.FieldSettings.{FieldSettings}
use Rattle.educe_settings.specs.EveryType.{behind}
use Rattle.educe_settings.specs.Defaults.{field_value, type_without}
use Rattle.educe_settings_types.specs.Defaults.{settings_by}
use Rattle.educe_settings.proofs.Growing.{given_more, image_at}
use Rattle.educe_settings_types.proofs.default_types.types_without.Goals as goal

pub loop-place-preserved : goal.loop-place-preserved
loop-place-preserved c = λ d are.
    let fields = c.args.fields.now in
    let field = c.index-fields-place.result in
    let settings = c.index-settings-place.result in
    let place = c.loop-place.place in
    let same : settings ≡ settings_by true d field = image_at (settings_by true d) fields c.args.settings.now place field settings are c.loop-place-test.true c.index-fields-place.is c.index-settings-place.is in
    given_more (λ f. type_without f (field_value d f)) fields place field field (behind c.loop-place.types.items) (behind c.add_type.new.types.items) c.loop-place-test.true c.index-fields-place.is (c.loop-place.invariant d are)
    (c.in_ok-add_type.ensures ∙ ap (λ (s : FieldSettings). behind c.loop-place.types.items ++ cons_option (type_without field s.values.expression) []) (sym c.index-settings-place.is ∙ same))

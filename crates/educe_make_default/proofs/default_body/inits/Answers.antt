use Rattle.std.proofs.Common.{◌≡◌, ◌∙◌, true, ap, refl, sym}
use Rattle.educe_attrs.specs.FieldSettings.{FieldSettings}
use Rattle.educe_meaning.specs.Making.{field_tokens, IsInit}
use Rattle.educe_settings.proofs.Lists.{zip_more}
use Rattle.educe_settings_types.specs.Defaults.{settings_by}
use Rattle.educe_settings.proofs.Growing.{image_at}
use Rattle.educe_make_default.proofs.default_body.inits.Goals as goal

pub loop-place-preserved : goal.loop-place-preserved
loop-place-preserved c = λ d are.
    let fields = c.args.fields.now in
    let field = c.index-fields-place.result in
    let settings = c.index-settings-place.result in
    let place = c.loop-place.place in
    let same : settings ≡ settings_by true d field = image_at (settings_by true d) fields c.args.settings.now place field settings are c.loop-place-test.true c.index-fields-place.is c.index-settings-place.is in
    zip_more (IsInit d) fields place field field c.loop-place.inits c.push.new.self _ c.loop-place-test.true c.index-fields-place.is (c.loop-place.invariant d are) c.in_ok-push.ensures.ok
    (record {
      key_is = c.in_ok-key.ensures;
      value_is = record { text = c.in_ok-text.text; is = refl; tokens_are = c.in_ok-text.ensures ∙ ap (λ (s : FieldSettings). field_tokens field s.values.expression) (sym c.index-settings-place.is ∙ same) };
    })

use Rattle.std.proofs.Common.{◌≡◌, ◌<◌, take, length, subst, arith}
use Rattle.std.proofs.lemmas.List.{take_all}
use Rattle.educe_meaning.specs.Arms.{ArePatternFields}
use Rattle.educe_handlers.proofs.PatternFields.{fields_more}
use Rattle.educe_handlers.proofs.patterns.pattern_fields.Goals as goal

pub loop-place-preserved : goal.loop-place-preserved
loop-place-preserved c =
    let within : c.loop-place.place < length c.args.settings.now = omega (arith, c.loop-place-test.true, c.requires.each) in
    fields_more c.args.prefix.now c.args.fields.now c.args.settings.now c.loop-place.place _ c.index-fields-place.result _ c.index-settings-place.result _ _ _
    c.loop-place-test.true within c.index-fields-place.is c.index-settings-place.is c.loop-place.invariant c.in_ok-push.ensures.ok (record {
      key_is = c.in_ok-key.ensures;
      name_is = c.in_ok-variable.ensures;
    })

pub returns : goal.returns
returns c =
    let prefix = c.args.prefix.now in
    let fields = c.args.fields.now in
    let settings = c.args.settings.now in
    let place = c.loop-place.place in
    let passed : take place fields ≡ fields = take_all place fields c.loop-place-test.false in
    let beside : take place settings ≡ settings = take_all place settings (omega (arith, c.loop-place-test.false, c.requires.each)) in
    subst (λ own. ArePatternFields prefix 0 own settings c.loop-place.found) passed
    (subst (λ all. ArePatternFields prefix 0 (take place fields) all c.loop-place.found) beside c.loop-place.invariant)

use Rattle.std.proofs.Common.{◌≡◌, List, take, subst, arith}
use Rattle.std.specs.List.{AllZip}
use Rattle.std.proofs.lemmas.List.{take_all}
use Rattle.educe_body_forms.specs.declared.form.Form.{Form}
use Rattle.educe_settings.specs.declared.ranked.Ranked.{Ranked}
use Rattle.educe_settings.specs.Ranked.{kept_of}
use Rattle.educe_handlers.specs.Readings.{reading_of}
use Rattle.educe_settings.proofs.Lists.{zip_more, zip_mapped}
use Rattle.educe_meaning.specs.HashBodies.{IsHashStep}
use Rattle.educe_settings.specs.Settings.{Kept}
use Rattle.educe_make_hash.proofs.feeding.steps.Goals as goal

pub loop-ranked-preserved : goal.loop-ranked-preserved
loop-ranked-preserved c =
    zip_more (λ (r : Ranked) step. IsHashStep c.args.state.now.text (reading_of c.args.reading) (kept_of r) step) c.args.fields.now c.loop-ranked.ranked-index _
    c.ranked-item.result _ _ _ c.loop-ranked-test.true c.ranked-item.is c.loop-ranked.invariant c.in_ok-push.ensures.ok c.in_ok-step.ensures

pub returns : goal.returns
returns c =
    let fields = c.args.fields.now in
    let IsStepOf : Kept → Form → Type 0 = λ k step. IsHashStep c.args.state.now.text (reading_of c.args.reading) k step in
    let whole : take c.loop-ranked.ranked-index fields ≡ fields = take_all _ _ (omega arith) in
    zip_mapped IsStepOf kept_of fields c.loop-ranked.block
    (subst (λ (ranked : List Ranked). AllZip (λ r step. IsStepOf (kept_of r) step) ranked c.loop-ranked.block) whole c.loop-ranked.invariant)

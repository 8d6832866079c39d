use Rattle.educe_handlers.specs.Readings.{reading_of}
use Rattle.educe_meaning.specs.CloneBodies.{IsCloneInit}
use Rattle.educe_make_clone.proofs.KeptLists.{kept_more, kept_all}
use Rattle.educe_make_clone.proofs.clone_body.inits.Goals as goal

pub loop-ranked-preserved : goal.loop-ranked-preserved
loop-ranked-preserved c =
    kept_more (IsCloneInit (reading_of c.args.reading)) c.args.fields.now c.loop-ranked.ranked-index c.ranked-item.result _ _ _ c.loop-ranked-test.true c.ranked-item.is
    c.loop-ranked.invariant c.in_ok-push.ensures.ok c.in_ok-init.ensures

pub returns : goal.returns
returns c = kept_all (IsCloneInit (reading_of c.args.reading)) c.args.fields.now c.loop-ranked.ranked-index c.loop-ranked.inits c.loop-ranked-test.false c.loop-ranked.invariant

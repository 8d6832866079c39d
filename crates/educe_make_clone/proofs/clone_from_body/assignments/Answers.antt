use Rattle.educe_meaning.specs.CloneBodies.{IsAssignment}
use Rattle.educe_make_clone.proofs.KeptLists.{kept_more, kept_all}
use Rattle.educe_make_clone.proofs.clone_from_body.assignments.Goals as goal

pub loop-ranked-preserved : goal.loop-ranked-preserved
loop-ranked-preserved c =
    kept_more (IsAssignment c.args.copied c.args.source.now.text) c.args.fields.now c.loop-ranked.ranked-index c.ranked-item.result _ _ _ c.loop-ranked-test.true c.ranked-item.is
    c.loop-ranked.invariant c.in_ok-push.ensures.ok c.in_ok-assignment.ensures

pub returns : goal.returns
returns c = kept_all (IsAssignment c.args.copied c.args.source.now.text) c.args.fields.now c.loop-ranked.ranked-index c.loop-ranked.block c.loop-ranked-test.false c.loop-ranked.invariant

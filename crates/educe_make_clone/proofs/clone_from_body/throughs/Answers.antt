use Rattle.educe_meaning.specs.CloneBodies.{IsThrough}
use Rattle.educe_make_clone.specs.CloneNames.{names_of}
use Rattle.educe_make_clone.proofs.KeptLists.{kept_more, kept_all}
use Rattle.educe_make_clone.proofs.clone_from_body.throughs.Goals as goal

pub loop-ranked-preserved : goal.loop-ranked-preserved
loop-ranked-preserved c =
    kept_more (IsThrough (names_of c.args.names.now)) c.args.fields.now c.loop-ranked.ranked-index c.ranked-item.result _ _ _ c.loop-ranked-test.true c.ranked-item.is
    c.loop-ranked.invariant c.in_ok-push.ensures.ok c.in_ok-through.ensures

pub returns : goal.returns
returns c = kept_all (IsThrough (names_of c.args.names.now)) c.args.fields.now c.loop-ranked.ranked-index c.loop-ranked.steps c.loop-ranked-test.false c.loop-ranked.invariant

use Rattle.std.proofs.Common.{ap, ◌∙◌, arith}
use Rattle.std.specs.Vec.Iter.{into_iter_items, into_iter_len}
use Rattle.std.proofs.lemmas.Iterator.{items_from_collect}
use Rattle.std.proofs.lemmas.Iterator.Adapters.{YieldsList-from_vec, YieldsList-from_skip}
use Rattle.educe_cli.proofs.ending.words.Goals as goal

-- what is skipped is the first of the arguments, and all others are collected
pub returns : goal.returns
returns c =
    items_from_collect _ c.collect.ensures.ran
    (YieldsList-from_skip 1 (YieldsList-from_vec _ (ap into_iter_items c.skip.ensures.source) (ap into_iter_len c.skip.ensures.source ∙ omega arith)) c.skip.ensures.count)

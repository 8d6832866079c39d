use Rattle.std.proofs.Common.{sym, ap}
use Rattle.std.proofs.lemmas.Result.{on_ok_weaker}
use Rattle.educe_tokens.proofs.Appending.{Appends-same}
use Rattle.educe_body_items.specs.Heads.{own_head}
use Rattle.educe_body_items.proofs.print_heads.push_own_head.Goals as goal

pub returns-in-PartialCmp-clause-ok : goal.returns-in-PartialCmp-clause-ok
returns-in-PartialCmp-clause-ok c =
    let same = sym (ap (λ head. (own_head head c.args.params.now).tokens) c.in-PartialCmp.is) in
    on_ok_weaker _ (λ found. Appends-same same found) c.push_comparing_head-in-PartialCmp.ensures.ok

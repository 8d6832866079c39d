use Rattle.std.proofs.Common.{sym}
use Rattle.std.proofs.lemmas.Result.{on_ok_weaker}
use Rattle.educe_tokens.proofs.Appending.{Appends-nil, Appends-same}
use Rattle.educe_body_items.proofs.Heads.{name_at-some, name_at-none}
use Rattle.educe_body_items.proofs.print_heads.push_name.Goals as goal

pub returns-in-Some-clause-ok : goal.returns-in-Some-clause-ok
returns-in-Some-clause-ok c =
    let own = name_at-some c.args.names.now c.args.index c.in-Some.name.now c.in-Some.ensures.within c.in-Some.ensures.some in
    on_ok_weaker _ (λ found. Appends-same (sym own) found) c.push_word.ensures.ok

pub returns-in-None-clause-ok : goal.returns-in-None-clause-ok
returns-in-None-clause-ok c =
    Appends-same (sym (name_at-none c.args.names.now c.args.index c.in-None.ensures.none)) (Appends-nil c.args.tokens.now)

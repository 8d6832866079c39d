use Rattle.std.proofs.Common.{Option, sym, ap, ◌∙◌}
use Rattle.std.proofs.lemmas.Result.{on_ok_weaker}
use Rattle.educe_tokens.proofs.Appending.{Appends-same}
use Rattle.educe_body_items.specs.declared.print_heads.Head.{Head}
use Rattle.educe_body_items.specs.Heads.{own_or_other}
use Rattle.educe_body_items.proofs.print_heads.push_function_head.Goals as goal

pub returns-in-Some-clause-ok : goal.returns-in-Some-clause-ok
returns-in-Some-clause-ok c =
    let same = ap (λ (found : Option Head). (own_or_other found c.args.function.now).tokens) (sym c.in-Some.is ∙ c.head_of.ensures) in
    on_ok_weaker _ (λ found. Appends-same same found) c.push_own_head.ensures.ok

pub returns-in-None-clause-ok : goal.returns-in-None-clause-ok
returns-in-None-clause-ok c =
    let same = ap (λ (found : Option Head). (own_or_other found c.args.function.now).tokens) (sym c.in-None.is ∙ c.head_of.ensures) in
    on_ok_weaker _ (λ found. Appends-same same found) c.push_other_head.ensures.ok

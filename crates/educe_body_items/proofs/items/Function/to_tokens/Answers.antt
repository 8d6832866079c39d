use Rattle.std.proofs.lemmas.Result.{on_ok_weaker}
use Rattle.educe_tokens.proofs.Appending.{Appends-append}
use Rattle.educe_body_items.proofs.items.Function.to_tokens.Goals as goal

pub returns-clause-ok : goal.returns-clause-ok
returns-clause-ok c = on_ok_weaker _ (λ back. Appends-append c.in_ok-push_function_head.ensures.ok back) c.push_block.ensures.ok

use Rattle.std.proofs.Common.{arith, ap, ◌∙◌}
use Rattle.std.specs.String.{string_bytes}
use Rattle.educe_tokens.proofs.Cutting.{whole_cut}
use Rattle.educe_tokens.proofs.spelling.Spelling.from_str.Goals as goal

pub invariant_of-result-2 : goal.invariant_of-result-2
invariant_of-result-2 c = whole_cut c.in_ok-source.source c.args.text.now _ (ap string_bytes c.in_ok-source.ensures.ok ∙ c.in_ok-from_str.ensures.ok) (omega arith) (omega arith)

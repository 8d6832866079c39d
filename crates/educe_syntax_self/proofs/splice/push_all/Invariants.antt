use Rattle.std.proofs.Common.{◌≡◌, ◌++◌, take}
use Rattle.educe_syntax_self.proofs.splice.push_all.Given as goal

abbrev pub invariant-loop-token : goal.invariant-loop-token
invariant-loop-token l = l.out ≡ l.fn.out ++ take l.token-index l.tokens

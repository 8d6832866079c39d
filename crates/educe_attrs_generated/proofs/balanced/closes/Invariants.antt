use Rattle.std.proofs.Common.{◌≡◌, [], length, reverse}
use Rattle.educe_tokens.specs.Brackets.{closes, kinds}
use Rattle.educe_tokens.specs.Lexes.{lexemes}
use Rattle.educe_attrs_generated.proofs.balanced.closes.Given as goal

abbrev pub invariant-loop-rest : goal.invariant-loop-rest
invariant-loop-rest l = closes [] (kinds (lexemes l.tokens)) ≡ closes (reverse l.outer.items) (kinds (lexemes l.rest))

abbrev pub decreases-loop-rest : goal.decreases-loop-rest
decreases-loop-rest l = length l.rest

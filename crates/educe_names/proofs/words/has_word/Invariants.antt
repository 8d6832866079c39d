use Rattle.std.proofs.Common.{chars, drop}
use Rattle.educe_names.specs.Words.{HasWord}
use Rattle.educe_names.proofs.words.has_word.Given as goal

abbrev pub invariant-loop-token : goal.invariant-loop-token
invariant-loop-token l = HasWord l.tokens (chars l.name) → HasWord (drop l.token-index l.tokens) (chars l.name)

use Rattle.std.proofs.Common.{◌≡◌, drop}
use Rattle.educe_body_values.specs.Callees.{first_named, spellings}
use Rattle.educe_body_values.proofs.callee.named.Given as goal

abbrev pub invariant-loop-words : goal.invariant-loop-words
invariant-loop-words l =
    first_named (drop l.words-index l.known) (spellings l.tokens) ≡ first_named l.known (spellings l.tokens)

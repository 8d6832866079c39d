use Rattle.std.proofs.Common.{◌≡◌, drop}
use Rattle.educe_tokens_pieces.specs.Machine.{plus}
use Rattle.educe_tokens_pieces.specs.RawStrings.{raw_closing_len}
use Rattle.educe_tokens_pieces.proofs.raw_strings.raw_closing_len.Given as goal

abbrev pub invariant-loop-i : goal.invariant-loop-i
invariant-loop-i l = raw_closing_len l.marks l.text ≡ plus l.i (raw_closing_len l.marks (drop l.i l.text))

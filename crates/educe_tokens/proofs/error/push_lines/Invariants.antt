use Rattle.std.proofs.Common.{◌≡◌, ◌++◌, length, map, encode_utf8_all}
use Rattle.std.specs.String.{string_bytes}
use Rattle.educe_tokens.specs.Message.{lines_below}
use Rattle.educe_tokens.proofs.error.push_lines.Given as goal

-- what is written and what is left are the whole
abbrev pub invariant-loop-rest : goal.invariant-loop-rest
invariant-loop-rest l = string_bytes l.text ++ lines_below (map encode_utf8_all l.rest) ≡ string_bytes l.fn.text ++ lines_below (map encode_utf8_all l.fn.lines)

abbrev pub decreases-loop-rest : goal.decreases-loop-rest
decreases-loop-rest l = length l.rest

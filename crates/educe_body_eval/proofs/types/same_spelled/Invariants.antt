use Rattle.std.proofs.Common.{◌≡◌, drop}
use Rattle.std.specs.Cmp.Lexicographic.{pointwise}
use Rattle.std.specs.Str.{bytes_eq}
use Rattle.educe_body_values.specs.Callees.{spellings}
use Rattle.educe_body_eval.proofs.types.same_spelled.Given as goal

abbrev pub invariant-loop-i : goal.invariant-loop-i
invariant-loop-i l =
    pointwise bytes_eq (spellings (drop l.i l.tokens)) (spellings (drop l.i l.others)) ≡ pointwise bytes_eq (spellings l.tokens) (spellings l.others)

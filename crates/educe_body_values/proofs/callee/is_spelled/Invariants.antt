use Rattle.std.proofs.Common.{◌≡◌, map, chars, drop}
use Rattle.std.specs.Str.{bytes_eq}
use Rattle.std.specs.Cmp.Lexicographic.{pointwise}
use Rattle.educe_body_values.specs.Callees.{path_of, spellings}
use Rattle.educe_body_values.proofs.callee.is_spelled.Given as goal

abbrev pub invariant-loop-word : goal.invariant-loop-word
invariant-loop-word l =
    pointwise bytes_eq (spellings l.rest) (path_of (map (λ w. chars w.now) (drop l.word-index l.words)))
    ≡ pointwise bytes_eq (spellings l.tokens) (path_of (map (λ w. chars w.now) l.words))

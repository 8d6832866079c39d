use Rattle.std.proofs.Common.{◌≡◌, ◌+◌, length}
use Rattle.std.specs.Prelude.{◌==◌, count_by}
use Rattle.std.specs.List.{after_last}
use Rattle.educe_tokens.proofs.span.Span.line_column.Given as goal

abbrev pub invariant-loop-c : goal.invariant-loop-c
invariant-loop-c l =
    (l.line ≡ count_by (λ c. c == 10) l.yielded + 1) × (l.column ≡ length (after_last (λ c. c == 10) l.yielded) + 1)

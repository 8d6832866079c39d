-- The line and the column of a place in a text.
use Rattle.std.specs.Prelude.{ℕ, ◌+◌, ◌==◌, List, length, take, count_by, chars}
use Rattle.std.specs.List.{after_last}
use Rattle.educe_tokens.specs.declared.span.Span.{Span}

-- The characters before a byte offset.
abbrev pub before : List ℕ → ℕ → List ℕ
before source offset = chars (take offset source)

-- The line of an offset, counted from 1: one more than the line feeds before it.
abbrev pub line_of : List ℕ → ℕ → ℕ
line_of source offset = count_by (λ c. c == 10) (before source offset) + 1

-- The column of an offset, counted from 1: one more than the characters between the last line feed before it and the
-- offset.
abbrev pub column_of : List ℕ → ℕ → ℕ
column_of source offset = length (after_last (λ c. c == 10) (before source offset)) + 1

-- The span with both ends so many bytes later.
abbrev pub shifted : ℕ → Span → Span
shifted by span = record { start = span.start + by; end = span.end + by }

-- The places of tokens in their source.
use Rattle.std.specs.Prelude.{◌≡◌, ℕ, ◌≤◌, List, chars, slice_range, encode_utf8_all}
use Rattle.std.specs.Str.{IsCharBoundary}
use Rattle.educe_tokens.specs.declared.span.Span.{Span}
use Rattle.educe_tokens.specs.declared.token.Token.{Token}

-- Both ends of the span are character boundaries of the source, and the bytes between them are those of the spelling.
pub record IsCutOut (source : List ℕ) (span : Span) (spelling : List ℕ) : Type 0 where
  pub ordered : span.start ≤ span.end
  pub starts : IsCharBoundary source span.start
  pub ends : IsCharBoundary source span.end
  pub cut : slice_range source span.start span.end ≡ encode_utf8_all spelling

-- The token's span cuts its spelling out of the source.
abbrev pub IsSlice : List ℕ → Token → Type 0
IsSlice source t = IsCutOut source t.span t.spelling

-- ---- spans and the characters of a text

-- The characters of the text within the span.
abbrev pub cut_out : List ℕ → Span → List ℕ
cut_out text span = chars (slice_range (encode_utf8_all text) span.start span.end)

-- Both ends of the span are character boundaries of the text.
pub record IsPlace (text : List ℕ) (span : Span) : Type 0 where
  pub ordered : span.start ≤ span.end
  pub starts : IsCharBoundary (encode_utf8_all text) span.start
  pub ends : IsCharBoundary (encode_utf8_all text) span.end

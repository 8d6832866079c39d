-- The causes of lexical rejections, with their places and words. The first cause counts: an unsupported literal or a
-- place where no piece fits only where all pieces before it are supported tokens, blanks or comments; a bracket only
-- where the whole text is such pieces, and all brackets before it close in order and within the limit on nesting.
use Rattle.std.specs.Prelude.{◌≡◌, ◌≢◌, ℕ, IsTrue, Option, Some, None, List, [], ◌∷◌, ◌++◌, length, Result, Ok, Err, encode_utf8_all}
use Rattle.educe_tokens_pieces.specs.declared.kind.Bracket.{Bracket}
use Rattle.educe_tokens_pieces.specs.declared.kind.TokenKind.{TokenKind}
use Rattle.educe_tokens_pieces.specs.declared.kind.TokenKind.TheVariants.{Start}
use Rattle.educe_tokens_pieces.specs.declared.kind.UncarriedKind.{UncarriedKind}
use Rattle.educe_tokens_pieces.specs.declared.kind.PieceKind.TheVariants.{Uncarried}
use Rattle.educe_tokens_scan.specs.Reading.{Piece, Reads, FitsNone}
use Rattle.educe_tokens.specs.declared.brackets.TheConstants.{NESTING}
use Rattle.educe_tokens.specs.declared.span.Span.{Span}
use Rattle.educe_tokens.specs.declared.token.Token.{Token}
use Rattle.educe_tokens.specs.declared.error.EduceError.{EduceError}
use Rattle.educe_tokens.specs.declared.error.Kind.TheVariants.{Alloc}
use Rattle.educe_tokens.specs.Lexes.{lexemes, Lexes, are_carried, end_of, span_at, spans}
use Rattle.educe_tokens.specs.Brackets.{open_after, kinds, NestsWithin}
use Rattle.educe_tokens.specs.Refusals.{placeless, syntax_at, too_deep_at, not_carried_at}

-- The empty span at an offset.
abbrev pub empty_at : ℕ → Span
empty_at offset = record { start = offset; end = offset }

-- The last of these spans, or the given one where there is none.
abbrev pub last_of : List Span → Span → Span
last_of [] other = other
last_of (place ∷ more) other = last_of more place

-- The open brackets after more tokens, innermost first; none where one closes another bracket than the innermost.
abbrev pub open_behind : List Bracket → List TokenKind → Option (List Bracket)
open_behind outer [] = Some outer
open_behind outer (kind ∷ more) = elim (open_after outer kind) [ None ↦ None | Some inner ↦ open_behind inner more ]

-- The text's tokens are those before, this token and those behind it; the tokens before nest within the limit and leave
-- these brackets open.
pub record Meets (limit : ℕ) (text : List ℕ) (before : List Token) (token : Token) (behind : List Token) (outer : List Bracket) : Type 0 where
  pub lexes : Lexes text (before ++ token ∷ behind)
  pub opened : open_behind [] (kinds (lexemes before)) ≡ Some outer
  pub shallow : NestsWithin limit (lexemes before)

-- Why a text has no tokens whose brackets match within this limit on nesting, with place and words: an unsupported
-- literal; a place where no piece fits; a bracket that closes another than the innermost; brackets that are open at the
-- end; a bracket that opens where as many are open as the limit allows; or out of memory.
pub data IsLexicalCauseWithin (limit : ℕ) (text : List ℕ) : EduceError → Type 0 where
  -- Supported pieces, followed by an unsupported literal.
  not_carried : (before : List Piece) (literal : Piece) (kind : UncarriedKind) (rest : List ℕ) → Reads text (before ++ literal ∷ []) rest
      → IsTrue (are_carried before) → literal.kind ≡ Uncarried kind
      → IsLexicalCauseWithin limit text (not_carried_at (span_at (end_of 0 before) literal) literal.spelling)
  -- Supported pieces, followed by a rest of which no prefix is a piece. The place is that of the last token before it;
  -- where there is no token, the empty span at the end of the text.
  no_piece : (before : List Piece) (rest : List ℕ) → Reads text before rest → IsTrue (are_carried before) → rest ≢ [] → FitsNone rest
      → IsLexicalCauseWithin limit text (syntax_at (last_of (spans 0 before) (empty_at (length (encode_utf8_all text)))))
  -- A bracket that closes another than the innermost one, or closes none.
  wrong_close : (before : List Token) (token : Token) (behind : List Token) (outer : List Bracket) → Meets limit text before token behind outer
      → open_after outer token.kind ≡ None → IsLexicalCauseWithin limit text (syntax_at token.span)
  -- Brackets are open at the end of the text; the place is the empty span there.
  unclosed : (tokens : List Token) (innermost : Bracket) (outer : List Bracket) → Lexes text tokens
      → open_behind [] (kinds (lexemes tokens)) ≡ Some (innermost ∷ outer) → NestsWithin limit (lexemes tokens)
      → IsLexicalCauseWithin limit text (syntax_at (empty_at (length (encode_utf8_all text))))
  -- A token opens a bracket where exactly as many are open as the limit allows.
  too_deep : (before : List Token) (token : Token) (behind : List Token) (outer : List Bracket) (b : Bracket)
      → Meets limit text before token behind outer → token.kind ≡ Start b → length outer ≡ limit
      → IsLexicalCauseWithin limit text (too_deep_at token.span)
  -- Out of memory may end any call.
  memory : IsLexicalCauseWithin limit text (placeless Alloc)

-- Why a text has no tokens whose brackets match, at most `NESTING` deep.
abbrev pub IsLexicalCause : List ℕ → EduceError → Type 0
IsLexicalCause text = IsLexicalCauseWithin NESTING text

-- Of a predicate on errors: it holds of some error that is not out of memory.
pub record HasCause (IsCause : EduceError → Type 0) : Type 0 where
  pub error : EduceError
  pub is_told : error.kind ≢ Alloc
  pub stands : IsCause error

-- The result is these tokens or out of memory.
abbrev pub Gives : Result (List Token) EduceError → List Token → Type 0
Gives (Ok found) tokens = found ≡ tokens
Gives (Err e) tokens = e.kind ≡ Alloc

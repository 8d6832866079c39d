-- The steps of lexing, and the causes for which they stop.
use Rattle.std.specs.Prelude.{◌≡◌, ℕ, None, List, ◌∷◌, [], ◌++◌, length}
use Rattle.educe_tokens_pieces.specs.declared.kind.Bracket.{Bracket}
use Rattle.educe_tokens_pieces.specs.declared.kind.TokenKind.{TokenKind}
use Rattle.educe_tokens_pieces.specs.declared.kind.TokenKind.TheVariants.{Start}
use Rattle.educe_tokens_pieces.specs.declared.kind.UncarriedKind.{UncarriedKind}
use Rattle.educe_tokens_pieces.specs.declared.kind.PieceKind.{PieceKind}
use Rattle.educe_tokens_pieces.specs.declared.kind.PieceKind.TheVariants.{Blank, Comment, Token as TokenPiece, Uncarried}
use Rattle.educe_tokens.specs.declared.brackets.TheConstants.{NESTING}
use Rattle.educe_tokens.specs.declared.brackets.BracketError.{BracketError}
use Rattle.educe_tokens.specs.declared.brackets.BracketError.TheVariants as bracket
use Rattle.educe_tokens.specs.declared.error.EduceError.{EduceError}
use Rattle.educe_tokens.specs.declared.error.Kind.TheVariants.{Alloc}
use Rattle.educe_tokens.specs.declared.span.Span.{Span}
use Rattle.educe_tokens.specs.declared.token.Token.{Token}
use Rattle.educe_tokens.specs.Lexes.{lexemes, Lexes}
use Rattle.educe_tokens.specs.Brackets.{open_after, IsBalanced, NestsWithin}
use Rattle.educe_tokens.specs.Refusals.{placeless, syntax_at, too_deep_at, not_carried_at}

-- What a piece adds to the tokens: a blank or a comment adds nothing, and an unsupported literal is never added.
abbrev pub Adds : PieceKind → List ℕ → Span → List Token → List Token → Type 0
Adds Blank spelling span old new = new ≡ old
Adds Comment spelling span old new = new ≡ old
Adds (TokenPiece kind) spelling span old new = (t : Token) × (new ≡ old ++ t ∷ []) × (t.kind ≡ kind) × (t.span ≡ span) × (t.spelling ≡ spelling)
Adds (Uncarried kind) spelling span old new = ⊥

-- The cause for which the piece at this place is not added.
pub data IsCauseOfPiece (spelling : List ℕ) (span : Span) : PieceKind → EduceError → Type 0 where
  not_carried : (kind : UncarriedKind) → IsCauseOfPiece spelling span (Uncarried kind) (not_carried_at span spelling)
  memory : (kind : PieceKind) → IsCauseOfPiece spelling span kind (placeless Alloc)

-- The cause for which one more token is rejected where at most so many brackets may be open, and these are, innermost
-- first.
abbrev pub IsCauseOfKind : ℕ → List Bracket → TokenKind → BracketError → Type 0
IsCauseOfKind limit outer kind bracket.WrongClose = open_after outer kind ≡ None
IsCauseOfKind limit outer kind bracket.TooDeep = (b : Bracket) × (kind ≡ Start b) × (length outer ≡ limit)
IsCauseOfKind limit outer kind bracket.Alloc = Unit {0}

-- The rejection that a bracket error becomes at this place.
abbrev pub refusal_of : BracketError → Span → EduceError
refusal_of bracket.WrongClose place = syntax_at place
refusal_of bracket.TooDeep place = too_deep_at place
refusal_of bracket.Alloc place = placeless Alloc

-- The tokens are those of the text, and their brackets close in order and within this limit on nesting.
pub record IsReadingWithin (limit : ℕ) (text : List ℕ) (tokens : List Token) : Type 0 where
  pub lexes : Lexes text tokens
  pub balanced : IsBalanced (lexemes tokens)
  pub shallow : NestsWithin limit (lexemes tokens)

-- The tokens are those of the text, and their brackets close in order, at most `NESTING` deep.
abbrev pub IsReading : List ℕ → List Token → Type 0
IsReading text = IsReadingWithin NESTING text

-- Tokens are equal where their kinds, spellings and spans are.
use mathlib.Core.HLevel.{is_prop→PathP}
use Rattle.std.proofs.Common.{◌≡◌, Bool, true, List, [], ◌∷◌, map, refl, sym, ap, ◌∙◌}
use Rattle.std.proofs.Math.Bool.{Bool-set}
use Rattle.std.specs.List.{list_all}
use Rattle.std.proofs.lemmas.Bool.{and_from}
use Rattle.educe_tokens.specs.declared.span.Span.{Span}
use Rattle.educe_tokens.specs.declared.token.Token.{Token}
use Rattle.educe_tokens_pieces.specs.declared.kind.TokenKind.{TokenKind}
use Rattle.educe_tokens_pieces.specs.declared.kind.TokenKind.TheVariants.{Doc}
use Rattle.educe_tokens_pieces.specs.declared.kind.PieceKind.{PieceKind}
use Rattle.educe_tokens_pieces.specs.declared.kind.PieceKind.TheVariants.{Blank, Comment, Token as TokenPiece, Uncarried}
use Rattle.educe_tokens_pieces.specs.Pieces.{spells}
use Rattle.educe_tokens_scan.specs.Reading.{Piece}
use Rattle.educe_tokens.specs.Lexes.{Lexeme, lexeme_of, lexemes, piece_of}
use Rattle.educe_tokens.proofs.Lists.{cons_parts, nil_not_cons}

-- the spelling is one token of the kind
abbrev pub is_lexeme : Lexeme → Bool
is_lexeme lexeme = spells lexeme.kind lexeme.spelling

-- each token is spelled as its kind
pub tokens_spelled : (ts : List Token) → list_all is_lexeme (lexemes ts) ≡ true
tokens_spelled [] = refl
tokens_spelled (t ∷ ts) = and_from _ _ t.spelled (tokens_spelled ts)

-- where the token lies
abbrev pub span_of : Token → Span
span_of t = t.span

-- two tokens are equal where their lexemes and spans are
same_token : (s t : Token) → lexeme_of s ≡ lexeme_of t → s.span ≡ t.span → s ≡ t
same_token s t e p = λ i. record {
  kind = (e i).kind;
  span = p i;
  spelling = (e i).spelling;
  spelled = is_prop→PathP (λ j. spells (e j).kind (e j).spelling ≡ true) (λ j. Bool-set _ _) s.spelled t.spelled i;
}

-- equal lexemes with equal spans are equal tokens
pub same_tokens : (us ts : List Token) → lexemes us ≡ lexemes ts → map span_of us ≡ map span_of ts → us ≡ ts
same_tokens [] [] e p = refl
same_tokens [] (t ∷ ts) e p = absurd (nil_not_cons _ _ e)
same_tokens (u ∷ us) [] e p = absurd (nil_not_cons _ _ (sym e))
same_tokens (u ∷ us) (t ∷ ts) e p =
    let same = cons_parts _ _ _ _ e in
    let places = cons_parts _ _ _ _ p in
    λ i. same_token u t same.0 places.0 i ∷ same_tokens us ts same.1 places.1 i

-- the kind of a token piece; of another piece it says nothing
abbrev pub kind_of : PieceKind → TokenKind
kind_of Blank = Doc
kind_of Comment = Doc
kind_of (TokenPiece kind) = kind
kind_of (Uncarried kind) = Doc

-- the lexeme of a token piece
abbrev pub lexeme_of_piece : Piece → Lexeme
lexeme_of_piece p = record { kind = kind_of p.kind; spelling = p.spelling }

-- the lexemes of their pieces
pub lexemes_of_pieces : (found : List Lexeme) → map lexeme_of_piece (map piece_of found) ≡ found
lexemes_of_pieces [] = refl
lexemes_of_pieces (x ∷ xs) = ap (λ rest. x ∷ rest) (lexemes_of_pieces xs)

-- lexemes of equal pieces are equal
pub same_lexemes : (xs ys : List Lexeme) → map piece_of xs ≡ map piece_of ys → xs ≡ ys
same_lexemes xs ys e = sym (lexemes_of_pieces xs) ∙ ap (map lexeme_of_piece) e ∙ lexemes_of_pieces ys

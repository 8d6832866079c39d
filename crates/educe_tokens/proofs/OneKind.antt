-- A spelling decides the kind of its token.
use Rattle.std.proofs.Common.{◌≡◌, ℕ, true, false, List, [], ◌∷◌, map, refl, sym, ap, ◌∙◌, append-nil}
use Rattle.std.proofs.lemmas.Bool.{and_from, and_right, not_from_false}
use Rattle.educe_tokens_pieces.specs.declared.kind.TokenKind.{TokenKind}
use Rattle.educe_tokens_pieces.specs.declared.kind.TokenKind.TheVariants.{Ident, Lifetime, Literal, Punct, Start, Stop, Doc}
use Rattle.educe_tokens_pieces.specs.declared.kind.PieceKind.{PieceKind}
use Rattle.educe_tokens_pieces.specs.declared.kind.PieceKind.TheVariants.{Token as TokenPiece}
use Rattle.educe_tokens_pieces.specs.Comments.{is_line}
use Rattle.educe_tokens_pieces.specs.Pieces.{spells}
use Rattle.educe_tokens_scan.specs.Reading.{Piece, IsPiece}
use Rattle.educe_tokens_scan.proofs.Following.{before_end}
use Rattle.educe_tokens_scan.proofs.Readings.{one_piece}
use Rattle.educe_tokens.specs.declared.token.Token.{Token}
use Rattle.educe_tokens.specs.Copied.{unjoined}
use Rattle.educe_tokens.specs.Same.{lexeme_aside, AreSameTokens}
use Rattle.educe_tokens.proofs.Lists.{cons_parts, nil_not_cons}

-- the token as a piece, not joint
abbrev apart : TokenKind → List ℕ → Piece
apart kind s = record { kind = TokenPiece (unjoined kind); spelling = s }

-- it may be all of a text
whole : (kind : TokenKind) (s : List ℕ) → spells kind s ≡ true → IsPiece (apart kind s) []
whole Ident s e = and_from (spells Ident s) _ e (before_end Ident s e refl)
whole Lifetime s e = and_from (spells Lifetime s) _ e (before_end Lifetime s e refl)
whole (Literal l) s e = and_from (spells (Literal l) s) _ e (before_end (Literal l) s e refl)
whole (Punct c joint) s e = and_from (spells (Punct c false) s) _ e (before_end (Punct c false) s e refl)
whole (Start b) s e = and_from (spells (Start b) s) _ e (before_end (Start b) s e refl)
whole (Stop b) s e = and_from (spells (Stop b) s) _ e (before_end (Stop b) s e refl)
whole Doc s e = and_from (spells Doc s) _ e (not_from_false _ (and_right (is_line s) false refl))

-- the kind of a piece that is a token
same_token : (k l : TokenKind) → ◌≡◌ {A = PieceKind} (TokenPiece k) (TokenPiece l) → k ≡ l
same_token k l same = cc

-- tokens with one spelling have one kind, jointness aside
pub kind_of_spelling : (t u : Token) → t.spelling ≡ u.spelling → unjoined t.kind ≡ unjoined u.kind
kind_of_spelling t u same =
    let text = append-nil t.spelling ∙ same ∙ sym (append-nil u.spelling) in
    let one = one_piece (apart t.kind t.spelling) (apart u.kind u.spelling) [] [] (whole t.kind t.spelling t.spelled) (whole u.kind u.spelling u.spelled) text in
    same_token (unjoined t.kind) (unjoined u.kind) (ap (λ (p : Piece). p.kind) one.0)

-- tokens with the same spellings are the same, jointness aside
pub same_spellings : (ts us : List Token) → map (λ (t : Token). t.spelling) ts ≡ map (λ (t : Token). t.spelling) us → AreSameTokens ts us
same_spellings [] [] same = refl
same_spellings [] (u ∷ us) same = absurd (nil_not_cons u.spelling (map (λ (t : Token). t.spelling) us) same)
same_spellings (t ∷ ts) [] same = absurd (nil_not_cons t.spelling (map (λ (t : Token). t.spelling) ts) (sym same))
same_spellings (t ∷ ts) (u ∷ us) same =
    let parts = cons_parts _ _ _ _ same in
    let first : lexeme_aside t ≡ lexeme_aside u = λ i. record { kind = kind_of_spelling t u parts.0 i; spelling = parts.0 i } in
    λ i. first i ∷ same_spellings ts us parts.1 i

-- The puncts of a text join well.
use Rattle.std.proofs.Common.{◌≡◌, ℕ, Bool, true, false, ◌&&◌, not, List, [], ◌∷◌, map, filter, refl, sym, ap, ◌∙◌, subst}
use Rattle.std.specs.Prelude.{◌==◌}
use Rattle.std.specs.Bool.{beq}
use Rattle.std.proofs.lemmas.Bool.{false≢true, and_parts, and_from, eq-eqb}
use Rattle.educe_tokens_pieces.specs.declared.kind.TokenKind.{TokenKind}
use Rattle.educe_tokens_pieces.specs.declared.kind.TokenKind.TheVariants.{Ident, Lifetime, Literal, Punct, Start, Stop, Doc}
use Rattle.educe_tokens_pieces.specs.declared.kind.PieceKind.{PieceKind}
use Rattle.educe_tokens_pieces.specs.declared.kind.PieceKind.TheVariants.{Blank, Comment, Token as TokenPiece, Uncarried}
use Rattle.educe_tokens_pieces.specs.Chars.{begins, is_punct, is_slash_or_star}
use Rattle.educe_tokens_pieces.specs.Pieces.{is_joint, is_piece}
use Rattle.educe_tokens_scan.specs.Reading.{Piece, IsPiece, Reads}
use Rattle.educe_tokens_scan.proofs.Readings.{one_piece}
use Rattle.educe_tokens.specs.Lexes.{Lexeme, LexesAside, is_token}
use Rattle.educe_tokens.specs.Brackets.{kinds, IsBalanced}
use Rattle.educe_tokens.specs.Text.{is_punct_behind, punct_joins, puncts_join, joins_well, have_no_doc, IsWellFormed}
use Rattle.educe_tokens.proofs.Tokens.{lexeme_of_piece, lexemes_of_pieces}

-- the kinds of the tokens among the pieces
abbrev kinds_among : List Piece → List TokenKind
kinds_among ps = kinds (map lexeme_of_piece (filter is_token ps))

-- a list with an item is not empty
nil_no_cons : (d : ℕ) (cs : List ℕ) → ◌≡◌ {A = List ℕ} (d ∷ cs) [] → ⊥
nil_no_cons d cs h = cc

-- a test equals itself
beq-refl : (b : Bool) → beq b b ≡ true
beq-refl true = refl
beq-refl false = refl

-- a test that is equal to true passes
beq-true : (b : Bool) → beq true b ≡ true → b ≡ true
beq-true true h = refl
beq-true false h = absurd (false≢true h)

-- a punct that opens a text, by itself
abbrev punct_piece : ℕ → List ℕ → Piece
punct_piece d cs = record { kind = TokenPiece (Punct d (is_joint cs)); spelling = d ∷ [] }

-- it is a piece, where it opens no comment
punct_is_piece : (d : ℕ) (cs : List ℕ) → is_joint (d ∷ cs) ≡ true → IsPiece (punct_piece d cs) cs
punct_is_piece d cs j =
    let parts = and_parts (is_punct d) _ j in
    and_from _ _ (and_from _ _ parts.0 (eq-eqb d d refl)) (and_from _ _ (beq-refl (is_joint cs)) parts.1)

-- before what makes a punct joint stands a punct, as the next piece
next_punct : (c : ℕ) (more : List ℕ) (ps : List Piece) → Reads more ps [] → is_joint more ≡ true → not ((c == 47) && begins is_slash_or_star more) ≡ true → is_punct_behind c (kinds_among ps) ≡ true
next_punct c [] ps b j h = absurd (false≢true j)
next_punct c (d ∷ cs) [] b j h = absurd (nil_no_cons d cs b)
next_punct c (d ∷ cs) (p ∷ ps) b j h =
    let same = one_piece (punct_piece d cs) p cs b.0 (punct_is_piece d cs j) b.2 b.1 in
    subst (λ (p : Piece). is_punct_behind c (kinds_among (p ∷ ps)) ≡ true) same.0 h

-- one more piece in front joins well
joins_piece : (kind : PieceKind) (s more : List ℕ) (ps : List Piece) → IsPiece (record { kind = kind; spelling = s }) more → Reads more ps [] → puncts_join (kinds_among ps) ≡ true → puncts_join (kinds_among (record { kind = kind; spelling = s } ∷ ps)) ≡ true
joins_piece Blank s more ps h b ih = ih
joins_piece Comment s more ps h b ih = ih
joins_piece (Uncarried kind) s more ps h b ih = ih
joins_piece (TokenPiece Ident) s more ps h b ih = ih
joins_piece (TokenPiece Lifetime) s more ps h b ih = ih
joins_piece (TokenPiece (Literal l)) s more ps h b ih = ih
joins_piece (TokenPiece (Punct c true)) s more ps h b ih =
    let p = and_parts (is_piece (TokenPiece (Punct c true)) s) _ h in
    let q = and_parts (beq true (is_joint more)) _ p.1 in
    and_from _ _ (next_punct c more ps b (beq-true _ q.0) q.1) ih
joins_piece (TokenPiece (Punct c false)) s more ps h b ih = ih
joins_piece (TokenPiece (Start o)) s more ps h b ih = ih
joins_piece (TokenPiece (Stop o)) s more ps h b ih = ih
joins_piece (TokenPiece Doc) s more ps h b ih = ih

-- the tokens among the pieces of a text join well
joins_pieces : (text : List ℕ) (ps : List Piece) → Reads text ps [] → puncts_join (kinds_among ps) ≡ true
joins_pieces text [] a = refl
joins_pieces text (p ∷ ps) a = joins_piece p.kind p.spelling a.0 ps a.2 a.4 (joins_pieces a.0 ps a.4)

-- each joint punct of a text is followed by a punct
pub lexes_joins : (text : List ℕ) (found : List Lexeme) → LexesAside text found → puncts_join (kinds found) ≡ true
lexes_joins text found a =
    ap (λ xs. puncts_join (kinds xs)) (sym (ap (map lexeme_of_piece) a.tokens_are ∙ lexemes_of_pieces found)) ∙ joins_pieces text a.pieces a.reads

-- a list without documentation whose puncts join may be printed
joins_without_doc : (found : List TokenKind) → have_no_doc found ≡ true → puncts_join found ≡ true → joins_well found ≡ true
joins_without_doc [] none join = refl
joins_without_doc (Ident ∷ more) none join = joins_without_doc more none join
joins_without_doc (Lifetime ∷ more) none join = joins_without_doc more none join
joins_without_doc (Literal l ∷ more) none join = joins_without_doc more none join
joins_without_doc (Punct c joint ∷ more) none join =
    let parts = and_parts (punct_joins (Punct c joint) more) _ join in and_from _ _ parts.0 (joins_without_doc more none parts.1)
joins_without_doc (Start b ∷ more) none join = joins_without_doc more none join
joins_without_doc (Stop b ∷ more) none join = joins_without_doc more none join
joins_without_doc (Doc ∷ more) none join = absurd (false≢true none)

-- a list without documentation whose puncts join and whose brackets close is well formed
pub well_formed_without_doc : (found : List Lexeme) → have_no_doc (kinds found) ≡ true → IsBalanced found → puncts_join (kinds found) ≡ true → IsWellFormed found
well_formed_without_doc found none balanced join = and_from _ _ balanced (joins_without_doc (kinds found) none join)

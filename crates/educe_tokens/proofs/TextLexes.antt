-- The text of well-formed tokens lexes as them.
use Rattle.std.proofs.Common.{◌≡◌, ℕ, Bool, true, false, ◌&&◌, cond, List, [], ◌∷◌, ◌++◌, map, filter, refl, sym, ap, subst}
use Rattle.std.specs.Prelude.{◌==◌}
use Rattle.std.specs.Bool.{beq}
use Rattle.std.specs.List.{list_all}
use Rattle.std.proofs.lemmas.Bool.{and_parts, and_from, and_right, not-true, not_from_false, false≢true}
use Rattle.educe_tokens_pieces.specs.declared.kind.TokenKind.{TokenKind}
use Rattle.educe_tokens_pieces.specs.declared.kind.TokenKind.TheVariants.{Ident, Lifetime, Literal, Punct, Start, Stop, Doc}
use Rattle.educe_tokens_pieces.specs.declared.kind.PieceKind.TheVariants.{Blank, Token as TokenPiece}
use Rattle.educe_tokens_pieces.specs.Chars.{begins, is_punct, is_slash_or_star}
use Rattle.educe_tokens_pieces.specs.Pieces.{is_joint, spells, may_precede}
use Rattle.educe_tokens_pieces.proofs.Classes.{only_is}
use Rattle.educe_tokens_scan.specs.Reading.{Piece, IsPiece, Reads}
use Rattle.educe_tokens_scan.specs.Joining.{stands_apart}
use Rattle.educe_tokens_scan.proofs.Following.{before_space, before_end}
use Rattle.educe_tokens_scan.proofs.Readings.{piece_longest}
use Rattle.educe_tokens.specs.declared.token.Token.{Token}
use Rattle.educe_tokens.specs.Brackets.{closes, kinds}
use Rattle.educe_tokens.specs.Lexes.{Lexeme, lexemes, LexesAside, is_token, are_carried, piece_of}
use Rattle.educe_tokens.specs.Text.{joins_next, is_punct_behind, may_join, joins_well, text_behind, text_of, IsWellFormed}
use Rattle.educe_tokens.proofs.Tokens.{is_lexeme, tokens_spelled}

-- what is spelled and stands apart may stand before the text of others
before_text : (kind : TokenKind) (s : List ℕ) (xs : List Lexeme) → spells kind s ≡ true → stands_apart kind ≡ true → may_precede (TokenPiece kind) s (text_behind false xs) ≡ true
before_text kind s [] e h = before_end kind s e h
before_text kind s (x ∷ xs) e h = before_space kind s _ e h

-- a punct and what is joint with it open no comment
behind : (c : ℕ) (kind : TokenKind) (s : List ℕ) (more : List TokenKind) (r : List ℕ) → spells kind s ≡ true → is_punct_behind c (kind ∷ more) ≡ true → ((c == 47) && begins is_slash_or_star (s ++ r)) ≡ false
behind c Ident s more r e h = absurd (false≢true h)
behind c Lifetime s more r e h = absurd (false≢true h)
behind c (Literal l) s more r e h = absurd (false≢true h)
behind c (Punct d j) s more r e h =
    let one = only_is d s (and_parts (is_punct d) _ e).1 in
    subst (λ x. ((c == 47) && begins is_slash_or_star (x ++ r)) ≡ false) (sym one) (not-true _ h)
behind c (Start b) s more r e h = absurd (false≢true h)
behind c (Stop b) s more r e h = absurd (false≢true h)
behind c Doc s more r e h = absurd (false≢true h)

-- the text behind a punct opens no comment with it
no_comment_behind : (c : ℕ) (joint : Bool) (xs : List Lexeme) → list_all is_lexeme xs ≡ true → may_join (Punct c joint) (kinds xs) ≡ true → ((c == 47) && begins is_slash_or_star (text_behind joint xs)) ≡ false
no_comment_behind c false [] e h = and_right (c == 47) false refl
no_comment_behind c false (x ∷ xs) e h = and_right (c == 47) false refl
no_comment_behind c true [] e h = absurd (false≢true h)
no_comment_behind c true (x ∷ xs) e h = behind c x.kind x.spelling (kinds xs) (text_behind (joins_next x.kind) xs) (and_parts (is_lexeme x) _ e).0 h

-- a punct is joint before the text of a punct behind it
joint_on : (c : ℕ) (kind : TokenKind) (s : List ℕ) (xs : List Lexeme) → spells kind s ≡ true → list_all is_lexeme xs ≡ true → is_punct_behind c (kind ∷ kinds xs) ≡ true → may_join kind (kinds xs) ≡ true → is_joint (s ++ text_behind (joins_next kind) xs) ≡ true
joint_on c Ident s xs e es h m = absurd (false≢true h)
joint_on c Lifetime s xs e es h m = absurd (false≢true h)
joint_on c (Literal l) s xs e es h m = absurd (false≢true h)
joint_on c (Punct d j) s xs e es h m =
    let parts = and_parts (is_punct d) _ e in
    subst (λ x. is_joint (x ++ text_behind j xs) ≡ true) (sym (only_is d s parts.1))
    (and_from (is_punct d) _ parts.0 (not_from_false _ (no_comment_behind d j xs es m)))
joint_on c (Start b) s xs e es h m = absurd (false≢true h)
joint_on c (Stop b) s xs e es h m = absurd (false≢true h)
joint_on c Doc s xs e es h m = absurd (false≢true h)

-- a punct is joint before the text of a list that begins with a punct
before_punct : (c : ℕ) (xs : List Lexeme) → list_all is_lexeme xs ≡ true → is_punct_behind c (kinds xs) ≡ true → joins_well (kinds xs) ≡ true → is_joint (text_behind true xs) ≡ true
before_punct c [] e h j = absurd (false≢true h)
before_punct c (x ∷ xs) e h j =
    let spelled = and_parts (is_lexeme x) _ e in
    joint_on c x.kind x.spelling xs spelled.0 spelled.1 h (and_parts (may_join x.kind (kinds xs)) _ j).0

-- each token may stand before the text of those behind it
precedes : (kind : TokenKind) (s : List ℕ) (xs : List Lexeme) → spells kind s ≡ true → list_all is_lexeme xs ≡ true → joins_well (kind ∷ kinds xs) ≡ true → may_precede (TokenPiece kind) s (text_behind (joins_next kind) xs) ≡ true
precedes Ident s xs e es h = before_text Ident s xs e refl
precedes Lifetime s xs e es h = before_text Lifetime s xs e refl
precedes (Literal l) s xs e es h = before_text (Literal l) s xs e refl
precedes (Punct c false) s xs e es h = before_text (Punct c false) s xs e refl
precedes (Punct c true) s xs e es h =
    let p = and_parts (is_punct_behind c (kinds xs)) _ h in
    and_from _ _ (subst (λ b. beq true b ≡ true) (sym (before_punct c xs es p.0 p.1)) refl) (not_from_false _ (no_comment_behind c true xs es p.0))
precedes (Start b) s xs e es h = before_text (Start b) s xs e refl
precedes (Stop b) s xs e es h = before_text (Stop b) s xs e refl
precedes Doc s xs e es h = absurd (false≢true h)

-- the space as a piece
abbrev space : Piece
space = record { kind = Blank; spelling = 32 ∷ [] }

-- the pieces of the text of lexemes
abbrev pieces_behind : Bool → List Lexeme → List Piece
pieces_behind joint [] = []
pieces_behind joint (x ∷ xs) = cond joint [] (space ∷ []) ++ (piece_of x ∷ pieces_behind (joins_next x.kind) xs)

-- the text of lexemes is read as its pieces
reads_behind : (joint : Bool) (xs : List Lexeme) → list_all is_lexeme xs ≡ true → joins_well (kinds xs) ≡ true → Reads (text_behind joint xs) (pieces_behind joint xs) []
reads_behind joint [] e h = refl
reads_behind true (x ∷ xs) e h =
    let spelled = and_parts (is_lexeme x) _ e in
    let piece : IsPiece (piece_of x) (text_behind (joins_next x.kind) xs) = and_from _ _ spelled.0 (precedes x.kind x.spelling xs spelled.0 spelled.1 h) in
    (text_behind (joins_next x.kind) xs, refl, piece, piece_longest (piece_of x) _ _ refl piece, reads_behind (joins_next x.kind) xs spelled.1 (and_parts (may_join x.kind (kinds xs)) _ h).1)
reads_behind false (x ∷ xs) e h =
    let spelled = and_parts (is_lexeme x) _ e in
    let piece : IsPiece (piece_of x) (text_behind (joins_next x.kind) xs) = and_from _ _ spelled.0 (precedes x.kind x.spelling xs spelled.0 spelled.1 h) in
    let more : List ℕ = x.spelling ++ text_behind (joins_next x.kind) xs in (
      more,
      refl,
      refl,
      piece_longest space _ more refl refl,
      (text_behind (joins_next x.kind) xs, refl, piece, piece_longest (piece_of x) _ _ refl piece, reads_behind (joins_next x.kind) xs spelled.1 (and_parts (may_join x.kind (kinds xs)) _ h).1),
    )

-- the tokens among them are the lexemes
tokens_behind : (joint : Bool) (xs : List Lexeme) → filter is_token (pieces_behind joint xs) ≡ map piece_of xs
tokens_behind joint [] = refl
tokens_behind true (x ∷ xs) = ap (λ ps. piece_of x ∷ ps) (tokens_behind (joins_next x.kind) xs)
tokens_behind false (x ∷ xs) = ap (λ ps. piece_of x ∷ ps) (tokens_behind (joins_next x.kind) xs)

-- no piece among them is an unsupported literal
carried_behind : (joint : Bool) (xs : List Lexeme) → are_carried (pieces_behind joint xs) ≡ true
carried_behind joint [] = refl
carried_behind true (x ∷ xs) = carried_behind (joins_next x.kind) xs
carried_behind false (x ∷ xs) = carried_behind (joins_next x.kind) xs

-- the text of lexemes that join well lexes as them
pub text_of_lexes : (xs : List Lexeme) → list_all is_lexeme xs ≡ true → joins_well (kinds xs) ≡ true → LexesAside (text_of xs) xs
text_of_lexes xs e h = record { pieces = pieces_behind true xs; reads = reads_behind true xs e h; carried = carried_behind true xs; tokens_are = tokens_behind true xs }

-- the text of tokens that join well lexes as them
pub text_of_tokens_lexes : (ts : List Token) → joins_well (kinds (lexemes ts)) ≡ true → LexesAside (text_of (lexemes ts)) (lexemes ts)
text_of_tokens_lexes ts h = text_of_lexes (lexemes ts) (tokens_spelled ts) h

-- the text of well-formed tokens lexes as them
pub well_formed_lexes : (ts : List Token) → IsWellFormed (lexemes ts) → LexesAside (text_of (lexemes ts)) (lexemes ts)
well_formed_lexes ts well = text_of_tokens_lexes ts (and_parts (closes [] (kinds (lexemes ts))) _ well).1

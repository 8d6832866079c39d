-- A text has one reading, so one list of tokens.
use Rattle.std.proofs.Common.{◌≡◌, ℕ, List, [], ◌∷◌, ◌++◌, filter, refl, sym, ap, ◌∙◌, append-nil}
use Rattle.educe_tokens.specs.declared.token.Token.{Token}
use Rattle.educe_tokens_scan.specs.Scan.{piece_at}
use Rattle.educe_tokens_scan.specs.Reading.{Piece, Reads}
use Rattle.educe_tokens.specs.Lexes.{Lexeme, lexemes, Lexes, LexesAside, is_token, spans}
use Rattle.educe_tokens.proofs.Tokens.{same_tokens, same_lexemes}
use Rattle.educe_tokens_scan.proofs.Readings.{reads_on, piece_finds, none_not_found, no_piece_at_end}

-- nothing is left to read of nothing
read_out : (us : List Piece) → Reads [] us [] → us ≡ []
read_out [] b = refl
read_out (u ∷ us) b = absurd (none_not_found _ (sym no_piece_at_end ∙ ap piece_at b.1 ∙ piece_finds u b.0 b.2))

-- two readings of one text are equal
pub one_reading : (text : List ℕ) (ps qs : List Piece) → Reads text ps [] → Reads text qs [] → ps ≡ qs
one_reading text ps qs a b = let on = reads_on text [] ps qs a b in sym (on.1 ∙ ap (λ us. ps ++ us) (read_out on.0 on.2) ∙ append-nil ps)

-- the tokens of a text, their spans aside
pub lexes_aside : (text : List ℕ) (ts : List Token) → Lexes text ts → LexesAside text (lexemes ts)
lexes_aside text ts a = record { pieces = a.pieces; reads = a.reads; carried = a.carried; tokens_are = a.tokens_are }

-- one text has one list of tokens, their spans aside
pub lexes_aside_one : (text : List ℕ) (xs ys : List Lexeme) → LexesAside text xs → LexesAside text ys → xs ≡ ys
lexes_aside_one text xs ys a b = same_lexemes xs ys (sym a.tokens_are ∙ ap (filter is_token) (one_reading text a.pieces b.pieces a.reads b.reads) ∙ b.tokens_are)

-- one text has one list of tokens
pub lexes_one : (text : List ℕ) (us ts : List Token) → Lexes text us → Lexes text ts → us ≡ ts
lexes_one text us ts a b =
    same_tokens us ts (lexes_aside_one text (lexemes us) (lexemes ts) (lexes_aside text us a) (lexes_aside text ts b))
    (sym a.spans_are ∙ ap (spans 0) (one_reading text a.pieces b.pieces a.reads b.reads) ∙ b.spans_are)

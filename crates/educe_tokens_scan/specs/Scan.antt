-- The scanner of the one piece at the start of a text, dispatched by the first characters.
use Rattle.std.specs.Prelude.{ℕ, ◌+◌, ◌==◌, Bool, false, cond, ◌&&◌, ◌||◌, Option, Some, None, List, [], ◌∷◌, take, drop}
use Rattle.std.specs.Char.{is_ascii, is_ascii_digit}
use Rattle.std.specs.List.{list_all}
use Rattle.educe_tokens_pieces.specs.declared.kind.Bracket.TheVariants.{Round, Square, Curly}
use Rattle.educe_tokens_pieces.specs.declared.kind.LiteralKind.TheVariants.{Str, ByteStr, Char, Byte}
use Rattle.educe_tokens_pieces.specs.declared.kind.TokenKind.{TokenKind}
use Rattle.educe_tokens_pieces.specs.declared.kind.TokenKind.TheVariants.{Ident, Lifetime, Literal, Punct, Start, Stop}
use Rattle.educe_tokens_pieces.specs.declared.kind.UncarriedKind.TheVariants.{CStr}
use Rattle.educe_tokens_pieces.specs.declared.kind.PieceKind.{PieceKind}
use Rattle.educe_tokens_pieces.specs.declared.kind.PieceKind.TheVariants.{Blank, Token, Uncarried}
use Rattle.educe_tokens_pieces.specs.declared.quotes.Quote.TheVariants.{Str as InStr, ByteStr as InByteStr, CStr as InCStr, Char as InChar, Byte as InByte}
use Rattle.educe_tokens_pieces.specs.declared.quotes.Within.TheVariants.{Open}
use Rattle.educe_tokens_pieces.specs.Chars.{begins, is_blank, is_punct, is_word_start}
use Rattle.educe_tokens_pieces.specs.Words.{continue_len, word_len, raw_word_len}
use Rattle.educe_tokens_pieces.specs.Machine.{end_at}
use Rattle.educe_tokens_pieces.specs.RawStrings.{raw_len}
use Rattle.educe_tokens_pieces.specs.Comments.{opens_comment}
use Rattle.educe_tokens_pieces.specs.CommentScan.{comment_at}
use Rattle.educe_tokens_pieces.specs.Numbers.{number_at}
use Rattle.educe_tokens_pieces.specs.Pieces.{is_joint, may_precede}

-- The token of a bracket character.
abbrev pub bracket_of : ℕ → Option TokenKind
bracket_of c =
    cond (c == 40) (Some (Start Round)) (cond (c == 41) (Some (Stop Round))
    (cond (c == 91) (Some (Start Square)) (cond (c == 93) (Some (Stop Square))
    (cond (c == 123) (Some (Start Curly)) (cond (c == 125) (Some (Stop Curly)) None)))))

-- The token, if there is one, with length 1.
abbrev pub one_long : Option TokenKind → Option (PieceKind × ℕ)
one_long None = None
one_long (Some kind) = Some (Token kind, 1)

-- The punct token, joint or not as the rest decides, with length 1.
abbrev pub punct_at : ℕ → List ℕ → Option (PieceKind × ℕ)
punct_at c cs = Some (Token (Punct c (is_joint cs)), 1)

-- A piece of the kind, `k` characters longer than the found length.
abbrev pub longer_by : ℕ → PieceKind → Option ℕ → Option (PieceKind × ℕ)
longer_by k kind None = None
longer_by k kind (Some n) = Some (kind, k + n)

-- An identifier whose first character stands before this text.
abbrev pub plain_word : List ℕ → Option (PieceKind × ℕ)
plain_word cs = Some (Token Ident, 1 + continue_len cs)

-- The character is `"` or `#`.
abbrev pub is_quote_or_hash : ℕ → Bool
is_quote_or_hash c = (c == 34) || (c == 35)

-- After `r`, a raw string begins: with `"`, or with `#` and then `"` or `#`.
abbrev pub opens_raw : List ℕ → Bool
opens_raw [] = false
opens_raw (c ∷ cs) = (c == 34) || ((c == 35) && begins is_quote_or_hash cs)

-- Behind a `b` or `c` the text continues as a raw string does: with an `r` first.
abbrev pub opens_prefixed_raw : List ℕ → Bool
opens_prefixed_raw [] = false
opens_prefixed_raw (c ∷ cs) = (c == 114) && opens_raw cs

-- After `r`, a raw word begins: with `#` and the start of a word.
abbrev pub opens_raw_word : List ℕ → Bool
opens_raw_word [] = false
opens_raw_word (c ∷ cs) = (c == 35) && begins is_word_start cs

-- The piece that an `r` begins: a raw string, a raw word or a word.
abbrev pub raw_or_word : List ℕ → Option (PieceKind × ℕ)
raw_or_word cs =
    cond (opens_raw cs) (longer_by 1 (Token (Literal Str)) (raw_len cs))
    (cond (opens_raw_word cs) (longer_by 2 (Token Ident) (raw_word_len (drop 1 cs)))
    (plain_word cs))

-- The length, if that many characters of the text are ASCII.
abbrev pub if_ascii : List ℕ → Option ℕ → Option ℕ
if_ascii text None = None
if_ascii text (Some n) = cond (list_all is_ascii (take n text)) (Some n) None

-- The length of a raw text of ASCII characters.
abbrev pub raw_ascii_len : List ℕ → Option ℕ
raw_ascii_len text = if_ascii text (raw_len text)

-- The piece that a `b` begins: a byte, a byte string, a raw byte string or a word.
abbrev pub byte_or_word : List ℕ → Option (PieceKind × ℕ)
byte_or_word cs =
    cond (begins (λ c. c == 39) cs) (longer_by 2 (Token (Literal Byte)) (end_at (Open InByte) (drop 1 cs)))
    (cond (begins (λ c. c == 34) cs) (longer_by 2 (Token (Literal ByteStr)) (end_at (Open InByteStr) (drop 1 cs)))
    (cond (opens_prefixed_raw cs) (longer_by 2 (Token (Literal ByteStr)) (raw_ascii_len (drop 1 cs)))
    (plain_word cs)))

-- The piece that a `c` begins: a C string, a raw C string or a word.
abbrev pub c_string_or_word : List ℕ → Option (PieceKind × ℕ)
c_string_or_word cs =
    cond (begins (λ c. c == 34) cs) (longer_by 2 (Uncarried CStr) (end_at (Open InCStr) (drop 1 cs)))
    (cond (opens_prefixed_raw cs) (longer_by 2 (Uncarried CStr) (raw_len (drop 1 cs)))
    (plain_word cs))

-- The piece that the first character of a word begins.
abbrev pub by_word : ℕ → List ℕ → Option (PieceKind × ℕ)
by_word c cs = cond (c == 114) (raw_or_word cs) (cond (c == 98) (byte_or_word cs) (cond (c == 99) (c_string_or_word cs) (plain_word cs)))

-- After `'`, a character literal of the found length, or else a lifetime.
abbrev pub or_lifetime : List ℕ → Option ℕ → Option (PieceKind × ℕ)
or_lifetime cs None = longer_by 1 (Token Lifetime) (word_len cs)
or_lifetime cs (Some n) = Some (Token (Literal Char), 1 + n)

-- The piece that a `'` begins: a character literal or a lifetime.
abbrev pub by_quote : List ℕ → Option (PieceKind × ℕ)
by_quote cs = or_lifetime cs (end_at (Open InChar) cs)

-- The piece that begins with none of a blank, a word, a digit and a comment.
abbrev pub by_sign : ℕ → List ℕ → Option (PieceKind × ℕ)
by_sign c cs =
    cond (c == 34) (longer_by 1 (Token (Literal Str)) (end_at (Open InStr) cs))
    (cond (c == 39) (by_quote cs)
    (cond (is_punct c) (punct_at c cs)
    (one_long (bracket_of c))))

-- The kind and length of what the first characters begin, before the check of what follows it.
abbrev pub candidate : List ℕ → Option (PieceKind × ℕ)
candidate [] = None
candidate (c ∷ cs) =
    cond (is_blank c) (Some (Blank, 1))
    (cond (is_word_start c) (by_word c cs)
    (cond (is_ascii_digit c) (number_at (c ∷ cs))
    (cond (opens_comment (c ∷ cs)) (comment_at (c ∷ cs))
    (by_sign c cs))))

-- The candidate, if it may stand before the rest of the text.
abbrev pub checked : List ℕ → Option (PieceKind × ℕ) → Option (PieceKind × ℕ)
checked text None = None
checked text (Some found) = cond (may_precede found.0 (take found.1 text) (drop found.1 text)) (Some found) None

-- The kind and length of the piece at the start of the text.
unfoldable pub piece_at : List ℕ → Option (PieceKind × ℕ)
piece_at text = checked text (candidate text)

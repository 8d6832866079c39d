-- The pieces that a text consists of (Rust Reference, Lexical structure): blanks, comments, tokens, and unsupported
-- literals. A piece has two tests: its spelling alone, and what may follow it.
use Rattle.std.specs.Prelude.{ℕ, ◌==◌, Bool, true, false, ◌&&◌, ◌||◌, not, List, [], ◌∷◌}
use Rattle.std.specs.Bool.{beq}
use Rattle.unicode_ident.specs.Ident.{is_xid_continue}
use Rattle.educe_tokens_pieces.specs.declared.kind.Bracket.{Bracket}
use Rattle.educe_tokens_pieces.specs.declared.kind.Bracket.TheVariants.{Round, Square, Curly}
use Rattle.educe_tokens_pieces.specs.declared.kind.LiteralKind.TheVariants.{Int, Str, ByteStr, Char, Byte}
use Rattle.educe_tokens_pieces.specs.declared.kind.TokenKind.{TokenKind}
use Rattle.educe_tokens_pieces.specs.declared.kind.TokenKind.TheVariants.{Ident, Lifetime, Literal, Punct, Start, Stop, Doc}
use Rattle.educe_tokens_pieces.specs.declared.kind.UncarriedKind.{UncarriedKind}
use Rattle.educe_tokens_pieces.specs.declared.kind.UncarriedKind.TheVariants.{Float, WideInt, CStr}
use Rattle.educe_tokens_pieces.specs.declared.kind.PieceKind.{PieceKind}
use Rattle.educe_tokens_pieces.specs.declared.kind.PieceKind.TheVariants.{Blank, Comment, Token, Uncarried}
use Rattle.educe_tokens_pieces.specs.Chars.{begins, is_only, is_empty, is_blank, is_punct, is_slash_or_star}
use Rattle.educe_tokens_pieces.specs.Words.{is_word, is_raw_word, is_lifetime, touches_word, touches_lifetime}
use Rattle.educe_tokens_pieces.specs.Integers.{is_int, is_wide_int, suffix_of, makes_float}
use Rattle.educe_tokens_pieces.specs.Floats.{is_float, ends_with_dot}
use Rattle.educe_tokens_pieces.specs.Machine.{is_str, is_byte_str, is_c_str, is_char, is_byte}
use Rattle.educe_tokens_pieces.specs.RawStrings.{is_raw_str, is_raw_byte_str, is_raw_c_str}
use Rattle.educe_tokens_pieces.specs.Comments.{is_comment, is_doc, opens_comment, ends_line_before}

-- The character that opens a bracket of this form.
abbrev pub opener : Bracket → ℕ
opener Round = 40
opener Square = 91
opener Curly = 123

-- The character that closes a bracket of this form.
abbrev pub closer : Bracket → ℕ
closer Round = 41
closer Square = 93
closer Curly = 125

-- The spelling is one token of the kind, jointness aside.
abbrev pub spells : TokenKind → List ℕ → Bool
spells Ident cs = is_word cs || is_raw_word cs
spells Lifetime cs = is_lifetime cs
spells (Literal Int) cs = is_int cs
spells (Literal Str) cs = is_str cs || is_raw_str cs
spells (Literal ByteStr) cs = is_byte_str cs || is_raw_byte_str cs
spells (Literal Char) cs = is_char cs
spells (Literal Byte) cs = is_byte cs
spells (Punct c joint) cs = is_punct c && is_only c cs
spells (Start b) cs = is_only (opener b) cs
spells (Stop b) cs = is_only (closer b) cs
spells Doc cs = is_doc cs

-- The spelling is one unsupported literal.
abbrev pub spells_uncarried : UncarriedKind → List ℕ → Bool
spells_uncarried Float cs = is_float cs
spells_uncarried WideInt cs = is_wide_int cs
spells_uncarried CStr cs = is_c_str cs || is_raw_c_str cs

-- The spelling is one piece of the kind.
abbrev pub is_piece : PieceKind → List ℕ → Bool
is_piece Blank [] = false
is_piece Blank (c ∷ []) = is_blank c
is_piece Blank (c ∷ d ∷ cs) = false
is_piece Comment cs = is_comment cs
is_piece (Token kind) cs = spells kind cs
is_piece (Uncarried kind) cs = spells_uncarried kind cs

-- A punctuation character is joint before this rest: another one follows directly, and no comment or documentation opens there.
abbrev pub is_joint : List ℕ → Bool
is_joint rest = begins is_punct rest && not (opens_comment rest)

-- The rest does not begin with a character that continues a word.
abbrev pub ends_word_before : List ℕ → Bool
ends_word_before rest = not (begins is_xid_continue rest)

-- An integer may stand before this rest: one without a suffix must not become a float.
abbrev pub may_follow_int : List ℕ → List ℕ → Bool
may_follow_int spelling rest = ends_word_before rest && (not (is_empty (suffix_of spelling)) || not (makes_float rest))

-- A float may stand before this rest: its final `.` does not become the first of two.
abbrev pub may_follow_float : List ℕ → List ℕ → Bool
may_follow_float spelling rest = ends_word_before rest && not (ends_with_dot spelling && begins (λ c. c == 46) rest)

-- What may follow a piece of the kind with this spelling.
abbrev pub may_precede : PieceKind → List ℕ → List ℕ → Bool
may_precede Blank spelling rest = true
may_precede Comment spelling rest = ends_line_before spelling rest
may_precede (Token Ident) spelling rest = not (begins touches_word rest)
may_precede (Token Lifetime) spelling rest = not (begins touches_lifetime rest)
may_precede (Token (Literal Int)) spelling rest = may_follow_int spelling rest
may_precede (Token (Literal Str)) spelling rest = ends_word_before rest
may_precede (Token (Literal ByteStr)) spelling rest = ends_word_before rest
may_precede (Token (Literal Char)) spelling rest = ends_word_before rest
may_precede (Token (Literal Byte)) spelling rest = ends_word_before rest
may_precede (Token (Punct c joint)) spelling rest = beq joint (is_joint rest) && not ((c == 47) && begins is_slash_or_star rest)
may_precede (Token (Start b)) spelling rest = true
may_precede (Token (Stop b)) spelling rest = true
may_precede (Token Doc) spelling rest = ends_line_before spelling rest
may_precede (Uncarried Float) spelling rest = may_follow_float spelling rest
may_precede (Uncarried WideInt) spelling rest = may_follow_int spelling rest
may_precede (Uncarried CStr) spelling rest = ends_word_before rest

-- The spelling is exactly one identifier or one integer.
abbrev pub is_name_or_index : List ℕ → Bool
is_name_or_index cs = spells Ident cs || spells (Literal Int) cs

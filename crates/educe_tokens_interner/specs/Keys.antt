-- Keys of token lists: numbers that are equal exactly where the tokens are, spans and jointness aside.
use Rattle.std.specs.Prelude.{ℕ, suc, List, [], ◌∷◌, ◌++◌, map}
use Rattle.std.specs.List.{flat_map}
use Rattle.std.specs.Ordering.{nat_cmp}
use Rattle.std.specs.Cmp.Lexicographic.{slice_cmp}
use Rattle.std.specs.declared.cmp.Ordering.{Ordering}
use Rattle.std.specs.declared.vec.Vec.{Vec}
use Rattle.std.specs.declared.alloc.Global.{Global}
use Rattle.educe_tokens.specs.Bracket.TheVariants.{Round, Square, Curly}
use Rattle.educe_tokens.specs.LiteralKind.TheVariants.{Int, Str, ByteStr, Char, Byte}
use Rattle.educe_tokens.specs.TokenKind.{TokenKind}
use Rattle.educe_tokens.specs.TokenKind.TheVariants as kind
use Rattle.educe_tokens.specs.declared.token.Token.{Token}

-- The number of a kind.
abbrev pub kind_number : TokenKind → ℕ
kind_number kind.Ident = 0
kind_number kind.Lifetime = 1
kind_number (kind.Literal Int) = 2
kind_number (kind.Literal Str) = 3
kind_number (kind.Literal ByteStr) = 4
kind_number (kind.Literal Char) = 5
kind_number (kind.Literal Byte) = 6
kind_number (kind.Punct c joint) = 7
kind_number (kind.Start Round) = 8
kind_number (kind.Start Square) = 9
kind_number (kind.Start Curly) = 10
kind_number (kind.Stop Round) = 11
kind_number (kind.Stop Square) = 12
kind_number (kind.Stop Curly) = 13
kind_number kind.Doc = 14

-- The character of a punct, and 0 for any other kind.
abbrev pub kind_char : TokenKind → ℕ
kind_char (kind.Punct c joint) = c
kind_char kind.Ident = 0
kind_char kind.Lifetime = 0
kind_char (kind.Literal l) = 0
kind_char (kind.Start b) = 0
kind_char (kind.Stop b) = 0
kind_char kind.Doc = 0

-- The key of a word: its kind, and its characters, each increased by 1, with a final 0.
abbrev pub word_key : TokenKind → List ℕ → List ℕ
word_key k text = kind_number k ∷ kind_char k ∷ (map suc text ++ 0 ∷ [])

-- The key of a token.
unfoldable pub token_key : Token → List ℕ
token_key t = word_key t.kind t.spelling

-- The key of tokens: the keys of each in sequence.
abbrev pub tokens_key : List Token → List ℕ
tokens_key tokens = flat_map token_key tokens

-- The order of keys.
abbrev pub key_cmp : Vec ℕ Global → Vec ℕ Global → Ordering
key_cmp x y = slice_cmp nat_cmp x.items y.items

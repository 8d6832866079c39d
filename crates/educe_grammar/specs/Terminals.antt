-- Terminals of the grammar: the sets of tokens that a parser asks for.
use Rattle.std.specs.Prelude.{ℕ, ◌==◌, Bool, true, false, ◌&&◌, ◌||◌, List, [], ◌∷◌, codes}
use Rattle.std.specs.List.{list_any}
use Rattle.std.specs.Str.{bytes_eq}
use Rattle.educe_tokens.specs.TokenKind.{TokenKind}
use Rattle.educe_tokens.specs.TokenKind.TheVariants as kind
use Rattle.educe_tokens.specs.LiteralKind.{LiteralKind}
use Rattle.educe_tokens.specs.LiteralKind.TheVariants as literal
use Rattle.educe_tokens.specs.declared.token.Token.{Token}
use Rattle.educe_tree.specs.Names.{is_name}
use Rattle.educe_grammar.specs.declared.terminal.Keyword.{Keyword}
use Rattle.educe_grammar.specs.declared.terminal.Keyword.TheVariants.{As, Const, Crate, Dyn, Enum, Extern, False, Fn, For, In, Mut, Pub, SelfType, SelfValue, Struct, Super, True, Underscore, Unsafe, Where}
use Rattle.educe_grammar.specs.declared.terminal.Terminal.{Terminal}
use Rattle.educe_grammar.specs.declared.terminal.Terminal.TheVariants as terminal

-- The spelling of the keyword.
abbrev pub text_of : Keyword → List ℕ
text_of As = codes "as"
text_of Const = codes "const"
text_of Crate = codes "crate"
text_of Dyn = codes "dyn"
text_of Enum = codes "enum"
text_of Extern = codes "extern"
text_of False = codes "false"
text_of Fn = codes "fn"
text_of For = codes "for"
text_of In = codes "in"
text_of Mut = codes "mut"
text_of Pub = codes "pub"
text_of SelfType = codes "Self"
text_of SelfValue = codes "self"
text_of Struct = codes "struct"
text_of Super = codes "super"
text_of True = codes "true"
text_of Underscore = codes "_"
text_of Unsafe = codes "unsafe"
text_of Where = codes "where"

-- A set of identifiers: names, these words, or all.
pub data Words : Type 0 where
  some_words : Bool → List Keyword → Words
  all_words : Words

-- A set of kinds of literals.
pub data Literals : Type 0 where
  no_literals : Literals
  ints : Literals
  strs : Literals
  all_literals : Literals

-- A set of punctuation characters.
pub data Signs : Type 0 where
  these_signs : List ℕ → Signs
  all_signs : Signs

-- A set of identifiers, lifetimes, literals and punctuation characters; no bracket and no documentation is in one.
pub record TokenSet : Type 0 where
  pub words : Words
  pub lifetimes : Bool
  pub literals : Literals
  pub signs : Signs

-- No identifier.
abbrev pub no_words : Words
no_words = some_words false []

-- No punctuation character.
abbrev pub no_signs : Signs
no_signs = these_signs []

-- A set of nothing but these identifiers.
abbrev pub only_words : Words → TokenSet
only_words words = record { words = words; lifetimes = false; literals = no_literals; signs = no_signs }

-- A set of nothing but these literals.
abbrev pub only_literals : Literals → TokenSet
only_literals literals = record { words = no_words; lifetimes = false; literals = literals; signs = no_signs }

-- A set of nothing but these punctuation characters.
abbrev pub only_signs : List ℕ → TokenSet
only_signs signs = record { words = no_words; lifetimes = false; literals = no_literals; signs = these_signs signs }

-- The words that the name of a segment may be.
abbrev pub segment_words : Words
segment_words = some_words true (SelfValue ∷ SelfType ∷ Super ∷ Crate ∷ [])

-- The set that a `Terminal` requests.
abbrev pub set_of : Terminal → TokenSet
set_of (terminal.Word word) = only_words (some_words false (word ∷ []))
set_of terminal.Name = only_words (some_words true [])
set_of terminal.AnyWord = only_words all_words
set_of terminal.NameOrUnderscore = only_words (some_words true (Underscore ∷ []))
set_of terminal.NameOrIndex = record { words = some_words true []; lifetimes = false; literals = ints; signs = no_signs }
set_of terminal.PathSegment = only_words segment_words
set_of terminal.Scope = only_words (some_words false (Crate ∷ SelfValue ∷ Super ∷ []))
set_of terminal.PointerWord = only_words (some_words false (Const ∷ Mut ∷ []))
set_of terminal.Truth = only_words (some_words false (True ∷ False ∷ []))
set_of terminal.Lifetime = record { words = no_words; lifetimes = true; literals = no_literals; signs = no_signs }
set_of terminal.Literal = only_literals all_literals
set_of terminal.Int = only_literals ints
set_of terminal.Str = only_literals strs
set_of (terminal.Sign c) = only_signs (c ∷ [])
set_of terminal.PrefixSign = only_signs (45 ∷ 33 ∷ 42 ∷ [])
set_of terminal.Leaf = record { words = all_words; lifetimes = true; literals = all_literals; signs = all_signs }

-- The identifier with this text is in the set.
abbrev pub word_in : Words → List ℕ → Bool
word_in (some_words names words) text = (names && is_name kind.Ident text) || list_any (λ word. bytes_eq (text_of word) text) words
word_in all_words text = true

-- A literal of this kind is in the set.
abbrev pub literal_in : Literals → LiteralKind → Bool
literal_in no_literals l = false
literal_in ints l = elim l [ literal.Int ↦ true | literal.Str ↦ false | literal.ByteStr ↦ false | literal.Char ↦ false | literal.Byte ↦ false ]
literal_in strs l = elim l [ literal.Int ↦ false | literal.Str ↦ true | literal.ByteStr ↦ false | literal.Char ↦ false | literal.Byte ↦ false ]
literal_in all_literals l = true

-- The punctuation character is in the set.
abbrev pub sign_in : Signs → ℕ → Bool
sign_in (these_signs signs) c = list_any (λ d. d == c) signs
sign_in all_signs c = true

-- A token of this kind and spelling is in the set.
abbrev pub token_in : TokenSet → TokenKind → List ℕ → Bool
token_in set kind.Ident text = word_in set.words text
token_in set kind.Lifetime text = set.lifetimes
token_in set (kind.Literal l) text = literal_in set.literals l
token_in set (kind.Punct c joint) text = sign_in set.signs c
token_in set (kind.Start b) text = false
token_in set (kind.Stop b) text = false
token_in set kind.Doc text = false

-- The token is in the set that a `Terminal` requests.
unfoldable pub accepts : Terminal → Token → Bool
accepts asked t = token_in (set_of asked) t.kind t.spelling

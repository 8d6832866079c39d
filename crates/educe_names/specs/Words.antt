-- The words of tokens: names without `r#`, lifetimes without `'`, and the runs of XID_Continue in strings and documentation.
use Rattle.std.specs.Prelude.{◌≡◌, ◌≢◌, ◌⊎◌, ℕ, false, not, IsTrue, List, [], ◌∷◌, ◌++◌}
use Rattle.std.specs.List.{list_all, slice_split}
use Rattle.unicode_ident.specs.Ident.{is_xid_continue}
use Rattle.educe_tokens.specs.TokenKind.TheVariants as kind
use Rattle.educe_tokens.specs.Pieces.{ends_word_before}
use Rattle.educe_tokens.specs.declared.token.Token.{Token}
use Rattle.educe_tokens.specs.Lexes.{Lexeme, lexeme_of}
use Rattle.educe_tokens.specs.StringValue.{IsStringValue}
use Rattle.educe_tree.specs.Names.{unraw}

-- The text begins with the word, which is not empty and consists of characters that continue a word, and which none
-- such follows.
pub record BeginsWithRun (word text : List ℕ) : Type 0 where
  pub rest : List ℕ
  pub is : text ≡ word ++ rest
  pub some : word ≢ []
  pub continues : IsTrue (list_all is_xid_continue word)
  pub ends : IsTrue (ends_word_before rest)

-- The word is a maximal run of characters that continue a word.
pub data IsRunOf : List ℕ → List ℕ → Type 0 where
  -- A run at the start of the text.
  front : (word text : List ℕ) → BeginsWithRun word text → IsRunOf word text
  -- A run after a character that doesn't continue a word.
  behind : (word before text : List ℕ) (c : ℕ) → is_xid_continue c ≡ false → BeginsWithRun word text → IsRunOf word (before ++ c ∷ text)

-- The word is a word of the token.
pub data IsWordOf : List ℕ → Lexeme → Type 0 where
  -- A name without `r#`.
  ident : (text : List ℕ) → IsWordOf (unraw text) (record { kind = kind.Ident; spelling = text })
  -- A lifetime without `'`.
  lifetime : (word : List ℕ) → IsWordOf word (record { kind = kind.Lifetime; spelling = 39 ∷ word })
  -- A run in the value of a string or of documentation.
  run : (word value : List ℕ) (token : Lexeme) → IsStringValue token value → IsRunOf word value → IsWordOf word token

-- The word is a word of one of the tokens.
abbrev pub HasWord : List Token → List ℕ → Type 0
HasWord [] word = ⊥
HasWord (t ∷ tokens) word = IsWordOf word (lexeme_of t) ⊎ HasWord tokens word

-- The parts of a text between characters that don't continue a word.
abbrev pub parts : List ℕ → List (List ℕ)
parts text = slice_split (λ c. not (is_xid_continue c)) text

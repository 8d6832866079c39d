-- The laws of names, independent of any call.
use Rattle.std.specs.Prelude.{◌≡◌, ◌≢◌, ℕ, true, false, IsTrue, List, ◌++◌, chars}
use Rattle.std.specs.List.{AllByRecursion, Contains}
use Rattle.educe_tokens.specs.TokenKind.TheVariants.{Ident}
use Rattle.educe_tokens.specs.declared.token.Token.{Token}
use Rattle.educe_tokens.specs.Lexes.{Lexeme, Lexes, LexesAside, lexeme_of}
use Rattle.educe_tokens.specs.Quote.{is_ascii_name}
use Rattle.educe_tokens.specs.Spells.{IsWord}
use Rattle.educe_tokens.specs.StringValue.{IsStringValue}
use Rattle.educe_tree.specs.Names.{unraw}
use Rattle.educe_names.specs.Chosen.{is_held, IsPrefix, AreChosen, AreApart, are_letters_apart}
use Rattle.educe_names.specs.Held.{AreWordsOf, HoldWordsOf}
use Rattle.educe_names.specs.Words.{IsRunOf, HasWord}

-- Laws of the identifiers of a text, and of names and prefixes that are chosen apart from the held words.
pub record NameLaws : Type 0 where
  -- An ASCII identifier is a word.
  pub ascii : (name : List ℕ) → IsTrue (is_ascii_name name) → IsWord (chars name)
  -- The words of the tokens stay held when more are.
  pub held : (tokens : List Token) (words more : List (List ℕ)) → AreWordsOf tokens words → HoldWordsOf tokens (words ++ more)
  -- A text that is not held is no word of tokens whose words are held.
  pub no_word : (tokens : List Token) (words : List (List ℕ)) (text : List ℕ) → HoldWordsOf tokens words → is_held words text ≡ false → ¬ HasWord tokens text
  -- Names that are chosen one after the other were not held before.
  pub chosen : (words names texts : List (List ℕ)) → AreChosen words names texts → AllByRecursion (λ text. is_held words text ≡ false) texts
  -- Names that are chosen one after the other are pairwise distinct.
  pub apart : (words names texts : List (List ℕ)) → AreChosen words names texts → AreApart texts
  -- No held word begins with a chosen prefix.
  pub prefixed : (words : List (List ℕ)) (name prefix key : List ℕ) → IsPrefix words name prefix → is_held words (prefix ++ key) ≡ false
  -- A name with one prefix has no other prefix, where the first letters of the two prefixes differ.
  pub prefixes : (words held : List (List ℕ)) (name other prefix mark key word : List ℕ) → IsPrefix words name prefix → IsPrefix held other mark
      → are_letters_apart name other ≡ true → prefix ++ key ≢ mark ++ word
  -- Each identifier of a text that lexes is, without `r#`, a maximal run of the text.
  pub idents_are_words : (text : List ℕ) (found : List Lexeme) (name : Lexeme) → LexesAside text found → Contains found name → name.kind ≡ Ident → IsRunOf (unraw name.spelling) text
  -- Each identifier in the value of a string or of documentation is, without `r#`, a word of the tokens.
  pub idents_in_values : (tokens : List Token) (token : Token) (value : List ℕ) (inner : List Token) (name : Token) → Contains tokens token → IsStringValue (lexeme_of token) value
      → Lexes value inner → Contains inner name → name.kind ≡ Ident → HasWord tokens (unraw name.spelling)

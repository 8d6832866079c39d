-- Laws of tokens, independent of any call: lexing, printing, kinds, copies and values.
use Rattle.std.specs.Prelude.{◌≡◌, ◌≢◌, ◌⊎◌, ℕ, true, IsTrue, IsUtf8, IsCharBoundary, List, [], ◌∷◌, ◌++◌, map, chars}
use Rattle.std.specs.Char.{is_ascii_digit}
use Rattle.std.specs.List.{AllByRecursion}
use Rattle.educe_tokens_pieces.specs.declared.kind.LiteralKind.TheVariants.{Int}
use Rattle.educe_tokens_pieces.specs.declared.kind.TokenKind.TheVariants.{Literal}
use Rattle.educe_tokens_pieces.specs.Chars.{begins}
use Rattle.educe_tokens_pieces.specs.Pieces.{spells}
use Rattle.educe_tokens_pieces.specs.Spells.{IsInteger}
use Rattle.educe_tokens.specs.declared.error.EduceError.{EduceError}
use Rattle.educe_tokens.specs.declared.error.Kind.TheVariants.{Alloc}
use Rattle.educe_tokens.specs.declared.token.Token.{Token}
use Rattle.educe_tokens.specs.Brackets.{kinds}
use Rattle.educe_tokens.specs.Causes.{HasCause, IsLexicalCause}
use Rattle.educe_tokens.specs.Copied.{copied, may_be_copied, unjoined, unjoin}
use Rattle.educe_tokens.specs.Lexes.{Lexeme, lexemes, Lexes, LexesAside}
use Rattle.educe_tokens.specs.Message.{HasWords}
use Rattle.educe_tokens.specs.Quote.{word_lexeme}
use Rattle.educe_tokens.specs.Same.{AreSameTokens}
use Rattle.educe_tokens.specs.Slices.{IsSlice}
use Rattle.educe_tokens.specs.Steps.{IsReading}
use Rattle.educe_tokens.specs.StringValue.{IsString, IsStringValue}
use Rattle.educe_tokens.specs.Text.{IsWellFormed, is_written, text_of}

-- ---- lexing

-- Laws of a text, its tokens and its causes of rejection.
pub record LexingLaws : Type 0 where
  -- Every text either consists of tokens whose brackets close in order, at most 128 deep, or has a cause of rejection.
  pub decided : (text : List ℕ) → ((tokens : List Token) × IsReading text tokens) ⊎ HasCause (IsLexicalCause text)
  -- A text that consists of such tokens has no cause of rejection but out of memory.
  pub uncaused : (text : List ℕ) (tokens : List Token) → IsReading text tokens → (e : EduceError) → IsLexicalCause text e → e.kind ≡ Alloc
  -- A text has at most one list of tokens.
  pub one_list : (text : List ℕ) (ts us : List Token) → Lexes text ts → Lexes text us → ts ≡ us
  -- A text has at most one cause of rejection.
  pub one_cause : (text : List ℕ) (e f : EduceError) → IsLexicalCause text e → IsLexicalCause text f → e.kind ≢ Alloc → f.kind ≢ Alloc → e ≡ f
  -- The words of a cause are those that its message cites.
  pub words : (text : List ℕ) (e : EduceError) → IsLexicalCause text e → HasWords e.kind e.words
  -- Each token's span cuts its spelling out of the source.
  pub slices : (source : List ℕ) (tokens : List Token) → IsUtf8 source → Lexes (chars source) tokens → AllByRecursion (IsSlice source) tokens
  -- The place of a cause begins at a character or at the end of the source.
  pub place : (source : List ℕ) (e : EduceError) → IsUtf8 source → IsLexicalCause (chars source) e → IsCharBoundary source e.span.start

-- ---- printing

-- Laws of printed texts.
pub record PrintingLaws : Type 0 where
  -- The printed text of well-formed tokens lexes as these tokens.
  pub lexes : (tokens : List Token) → IsWellFormed (lexemes tokens) → LexesAside (text_of (lexemes tokens)) (lexemes tokens)
  -- A text after another, on a line of its own, adds its tokens.
  pub behind : (a b : List ℕ) (xs ys : List Lexeme) → LexesAside a xs → LexesAside b ys → LexesAside (a ++ 10 ∷ b) (xs ++ ys)

-- ---- kinds

-- A spelling decides the kind of its token.
pub record KindLaws : Type 0 where
  -- Tokens with one spelling have one kind, jointness aside.
  pub kind : (t u : Token) → t.spelling ≡ u.spelling → unjoined t.kind ≡ unjoined u.kind
  -- Tokens with the same spellings are the same tokens.
  pub same : (ts us : List Token) → map (λ (t : Token). t.spelling) ts ≡ map (λ (t : Token). t.spelling) us → AreSameTokens ts us
  -- A spelling of the grammar of integers is an integer token.
  pub integer : (text : List ℕ) → IsInteger text → IsTrue (spells (Literal Int) text)
  -- A word that begins with a decimal digit is an integer.
  pub index : (text : List ℕ) → begins is_ascii_digit text ≡ true → (word_lexeme text).kind ≡ Literal Int

-- ---- copies

-- Copying changes only the jointness of puncts, where they could not stand joint.
pub record CopyingLaws : Type 0 where
  -- Copies keep the spellings.
  pub spellings : (found : List Lexeme) → map (λ (x : Lexeme). x.spelling) (copied found) ≡ map (λ (x : Lexeme). x.spelling) found
  -- Copies keep the kinds, jointness aside.
  pub kinds : (found : List Lexeme) → map unjoined (kinds (copied found)) ≡ map unjoined (kinds found)
  -- Copies may stand side by side.
  pub written : (found : List Lexeme) → IsTrue (may_be_copied found) → IsTrue (is_written (copied found))
  -- Tokens that may stand side by side are copied unchanged.
  pub kept : (found : List Lexeme) → IsTrue (is_written found) → copied found ≡ found
  -- Where only the jointness of the last token keeps the tokens from standing side by side, only that jointness is
  -- removed.
  pub last : (front : List Lexeme) (last : Lexeme) → IsTrue (is_written (front ++ unjoin last ∷ [])) → copied (front ++ last ∷ []) ≡ front ++ unjoin last ∷ []

-- ---- values

-- Laws of the values of strings and of documentation.
pub record ValueLaws : Type 0 where
  -- A token has at most one value.
  pub one_value : (token : Lexeme) (value other : List ℕ) → IsStringValue token value → IsStringValue token other → value ≡ other
  -- A token that has a value is a string or documentation.
  pub kind : (token : Lexeme) (value : List ℕ) → IsStringValue token value → IsString token.kind

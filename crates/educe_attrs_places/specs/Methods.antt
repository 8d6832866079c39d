-- The origin of methods' tokens: the attributes, or the text of a string in them.
use Rattle.std.specs.Prelude.{ℕ, List, Contains}
use Rattle.std.specs.List.{AllByRecursion}
use Rattle.educe_tokens.specs.declared.token.Token.{Token}
use Rattle.educe_tokens.specs.Lexes.{lexeme_of}
use Rattle.educe_tokens.specs.Steps.{IsReading}
use Rattle.educe_tokens.specs.StringValue.{IsStringValue}

-- The tokens are among all tokens, or are those of the text of a string that is one of them.
pub data IsTextOf (all found : List Token) : Type 0 where
  standing : AllByRecursion (λ t. Contains all t) found → IsTextOf all found
  quoted : (string : Token) (value : List ℕ) → Contains all string → IsStringValue (lexeme_of string) value → IsReading value found → IsTextOf all found

-- Equality of tokens, wherever they stand.
use Rattle.std.specs.Prelude.{◌≡◌, List, map}
use Rattle.educe_tokens.specs.declared.token.Token.{Token}
use Rattle.educe_tokens.specs.Copied.{unjoin}
use Rattle.educe_tokens.specs.Lexes.{Lexeme, lexeme_of}

-- The token without its span and without jointness.
abbrev pub lexeme_aside : Token → Lexeme
lexeme_aside t = unjoin (lexeme_of t)

-- The tokens of a list without spans and jointness.
abbrev pub lexemes_aside : List Token → List Lexeme
lexemes_aside tokens = map lexeme_aside tokens

-- Both lists have the same tokens, spans and jointness aside.
abbrev pub AreSameTokens : List Token → List Token → Type 0
AreSameTokens ts us = lexemes_aside ts ≡ lexemes_aside us

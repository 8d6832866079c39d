-- Laws of the tokens of every printable value.
use Rattle.std.specs.Prelude.{IsTrue, List}
use Rattle.educe_tokens.specs.Lexes.{Lexeme, LexesAside}
use Rattle.educe_tokens.specs.Brackets.{kinds}
use Rattle.educe_tokens.specs.Text.{ends_apart, text_of}

-- The last token is not joint, so that any token may stand behind it.
abbrev pub EndsApart : List Lexeme → Type 0
EndsApart found = IsTrue (ends_apart (kinds found))

-- The text of the tokens lexes as these tokens, jointness included.
abbrev pub LexesBack : List Lexeme → Type 0
LexesBack found = LexesAside (text_of found) found

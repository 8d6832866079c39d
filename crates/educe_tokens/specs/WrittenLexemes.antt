-- The printed form of tokens that were read from a source.
use Rattle.std.specs.Prelude.{List}
use Rattle.educe_tokens.specs.declared.written.Written.{Written}
use Rattle.educe_tokens.specs.Copied.{copied}
use Rattle.educe_tokens.specs.Lexes.{Lexeme, lexemes}

-- The tokens as they are copied.
abbrev pub written_lexemes : Written → List Lexeme
written_lexemes written = copied (lexemes written.tokens)

-- Tokens that are spelled as their kinds.
use Rattle.std.specs.Prelude.{Bool, List}
use Rattle.std.specs.List.{list_all}
use Rattle.educe_tokens_pieces.specs.Pieces.{spells}
use Rattle.educe_tokens.specs.Lexes.{Lexeme}

-- Each token is spelled as its kind.
abbrev pub are_spelled : List Lexeme → Bool
are_spelled found = list_all (λ x. spells x.kind x.spelling) found

-- Texts between two quotes.
use Rattle.std.specs.Prelude.{ℕ, List, ◌++◌, codes}

-- A text as it stands in a string literal: between two quotes.
abbrev pub in_quotes : List ℕ → List ℕ
in_quotes text = codes "\"" ++ text ++ codes "\""

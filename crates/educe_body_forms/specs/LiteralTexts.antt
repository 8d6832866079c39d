-- The texts of string literals that names make.
use Rattle.std.specs.Prelude.{ℕ, List, [], ◌∷◌, ◌++◌, Option, None, Some, codes}
use Rattle.educe_tree.specs.declared.ident.Ident.{Ident}

-- The text of a name, where there is one.
abbrev pub optional_text : Option Ident → List ℕ
optional_text None = []
optional_text (Some name) = name.text

-- Two texts, with `::` between where neither is empty.
abbrev pub path_text : List ℕ → List ℕ → List ℕ
path_text [] last = last
path_text (c ∷ first) [] = c ∷ first
path_text (c ∷ first) (d ∷ last) = (c ∷ first) ++ codes "::" ++ d ∷ last

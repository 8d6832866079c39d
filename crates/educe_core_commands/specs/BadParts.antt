-- The rejection of an input that is not in parts.
use Rattle.std.specs.Prelude.{◌≡◌, ℕ, List, [], ◌∷◌, ◌++◌, length, codes}
use Rattle.educe_tokens.specs.declared.error.EduceError.{EduceError}
use Rattle.educe_tokens.specs.declared.error.Kind.TheVariants.{BadParts}
use Rattle.educe_core_commands.specs.Parts.{Part, IsInParts}

-- The names, joined by a comma and a blank.
abbrev pub joined : List (List ℕ) → List ℕ
joined [] = []
joined (name ∷ []) = name
joined (name ∷ next ∷ names) = name ++ (codes ", " ++ joined (next ∷ names))

-- The input has no parts with these names, and the rejection says so of the whole of it.
pub record IsBadParts (names : List (List ℕ)) (input : List ℕ) (e : EduceError) : Type 0 where
  pub apart : (parts : List Part) → IsInParts names input parts → ⊥
  pub is : e ≡ record { kind = BadParts; span = record { start = 0; end = length input }; words = joined names ∷ [] }

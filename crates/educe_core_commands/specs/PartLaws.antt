-- What holds of inputs of several parts.
use Rattle.std.specs.Prelude.{◌≡◌, ℕ, ◌+◌, List, IsCharBoundary}
use Rattle.std.specs.List.{AllByRecursion}
use Rattle.educe_core_commands.specs.Parts.{Part, IsInParts, AreOnOneLine}

-- A place in a part that is a character boundary of the part, moved by the bytes in front of the part, is one of the input.
abbrev pub IsPlacedIn : List ℕ → Part → Type 0
IsPlacedIn input part = (place : ℕ) → IsCharBoundary part.text place → IsCharBoundary input (part.start + place)

-- Laws of inputs of several parts.
pub record PartLaws : Type 0 where
  -- An input has at most one division into parts.
  pub one_division : (names : List (List ℕ)) (input : List ℕ) (parts others : List Part) → AreOnOneLine names → IsInParts names input parts
      → IsInParts names input others → parts ≡ others
  -- A place in a part is a place in the input.
  pub placed : (names : List (List ℕ)) (input : List ℕ) (parts : List Part) → IsInParts names input parts
      → AllByRecursion (IsPlacedIn input) parts

-- Inputs of several parts, each below a line that names it.
use Rattle.std.specs.Prelude.{◌≡◌, ◌≢◌, ◌⊎◌, ℕ, ◌+◌, List, [], ◌∷◌, ◌++◌, length, codes}
use Rattle.std.specs.List.{AllByRecursion}

-- The line above the part of a name.
abbrev pub mark : List ℕ → List ℕ
mark name = codes "--- " ++ name

-- What is in front of a line: nothing, or a text that ends with a line feed.
abbrev pub BeginsLine : List ℕ → Type 0
BeginsLine front = (front ≡ []) ⊎ ((before : List ℕ) × (front ≡ before ++ (10 ∷ [])))

-- What is behind a line: nothing, or a text that begins with a line feed.
abbrev pub EndsLine : List ℕ → Type 0
EndsLine back = (back ≡ []) ⊎ ((behind : List ℕ) × (back ≡ 10 ∷ behind))

-- A text has this line.
pub record HasLine (text line : List ℕ) : Type 0 where
  pub front : List ℕ
  pub back : List ℕ
  pub is : text ≡ front ++ (line ++ back)
  pub begins : BeginsLine front
  pub ends : EndsLine back

-- No line of the text is the mark of one of these names.
abbrev pub IsUnmarked : List (List ℕ) → List ℕ → Type 0
IsUnmarked names text = AllByRecursion (λ name. HasLine text (mark name) → ⊥) names

-- A part, and how many bytes of the input are in front of it.
pub record Part : Type 0 where
  pub start : ℕ
  pub text : List ℕ

-- These bytes, in front of which there are so many, are the mark of the name, a line feed, the part, and what is behind it; or the
-- mark alone, whose part is empty.
abbrev pub HasPart : List ℕ → ℕ → List ℕ → Part → List ℕ → Type 0
HasPart name start bytes part behind =
    ((bytes ≡ mark name ++ (10 ∷ (part.text ++ behind))) × (part.start ≡ start + (length (mark name) + 1)))
    ⊎ ((bytes ≡ mark name) × (part ≡ record { start = start + length (mark name); text = [] }) × (behind ≡ []))

-- The part of a name begins behind the line feed of its mark, and ends at the next mark or at the end of the input. Of all names of
-- the command no other mark is in it.
pub record IsPart (all : List (List ℕ)) (name : List ℕ) (start : ℕ) (bytes : List ℕ) (part : Part) (behind : List ℕ) : Type 0 where
  pub has : HasPart name start bytes part behind
  pub unmarked : IsUnmarked all part.text
  pub ends : BeginsLine part.text ⊎ (behind ≡ [])

-- These bytes, in front of which there are so many, are parts with these names in their order.
abbrev pub AreParts : List (List ℕ) → List (List ℕ) → ℕ → List ℕ → List Part → Type 0
AreParts all [] start bytes [] = bytes ≡ []
AreParts all (name ∷ names) start bytes (part ∷ parts) =
    (behind : List ℕ) × IsPart all name start bytes part behind × AreParts all names (part.start + length part.text) behind parts
AreParts all [] start bytes (part ∷ parts) = ⊥
AreParts all (name ∷ names) start bytes [] = ⊥

-- The parts of an input: each name has one, in this order, and the input begins with the mark of the first.
abbrev pub IsInParts : List (List ℕ) → List ℕ → List Part → Type 0
IsInParts names input parts = AreParts names names 0 input parts

-- No name has a line feed.
abbrev pub AreOnOneLine : List (List ℕ) → Type 0
AreOnOneLine names = AllByRecursion (λ name. AllByRecursion (λ c. c ≢ 10) name) names

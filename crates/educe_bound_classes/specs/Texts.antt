-- Borrowed texts, and sets of them.
use Rattle.std.specs.Prelude.{◌≡◌, ℕ, Bool, true, ◌||◌, List, map, chars}
use Rattle.std.specs.Borrow.{Bor}
use Rattle.std.specs.List.{list_any}
use Rattle.std.specs.Str.{bytes_eq}

-- The characters of borrowed texts.
abbrev pub texts_of : List (Bor (List ℕ)) → List (List ℕ)
texts_of texts = map (λ text. chars text.now) texts

-- The text is in the list.
abbrev pub has_text : List (List ℕ) → List ℕ → Bool
has_text texts text = list_any (λ known. bytes_eq text known) texts

-- The texts of the first list are added to the second, and no others.
abbrev pub AddsTexts : List (List ℕ) → List (List ℕ) → List (List ℕ) → Type 0
AddsTexts more old new = (text : List ℕ) → has_text new text ≡ (has_text old text || has_text more text)

-- The second list has all texts of the first.
abbrev pub KeepsTexts : List (List ℕ) → List (List ℕ) → Type 0
KeepsTexts old new = (text : List ℕ) → has_text old text ≡ true → has_text new text ≡ true

-- The list has exactly the texts that pass the test.
abbrev pub IsSetOf : (List ℕ → Bool) → List (List ℕ) → Type 0
IsSetOf test texts = (text : List ℕ) → has_text texts text ≡ test text

-- The choice of fresh names: a name after the fewest `_` with which it clashes with none of the held words.
use Rattle.std.specs.Prelude.{◌≡◌, ℕ, zero, suc, ◌<◌, ◌==◌, Bool, true, false, not, Option, Some, None, List, [], ◌∷◌, ◌++◌, if◌then◌else◌, nat_eq}
use Rattle.std.specs.List.{list_any, starts_with}
use Rattle.std.specs.Str.{bytes_eq}
use Rattle.educe_names.specs.declared.fewest.Clash.{Clash}
use Rattle.educe_names.specs.declared.fewest.Clash.TheVariants.{Whole, Front}

-- The text after `count` underscores.
abbrev pub underscored : ℕ → List ℕ → List ℕ
underscored zero text = text
underscored (suc count) text = 95 ∷ underscored count text

-- The word clashes with the text: it is the text, or begins with it.
abbrev pub clash : Clash → List ℕ → List ℕ → Bool
clash Whole word text = bytes_eq word text
clash Front word text = starts_with nat_eq word text

-- One of the words clashes with the text.
abbrev pub is_taken : Clash → List (List ℕ) → List ℕ → Bool
is_taken how words text = list_any (λ word. clash how word text) words

-- One of the words is the text.
abbrev pub is_held : List (List ℕ) → List ℕ → Bool
is_held words text = is_taken Whole words text

-- The count is the least number of `_` after which the name clashes with none of the words.
pub record IsFewest (how : Clash) (words : List (List ℕ)) (name : List ℕ) (count : ℕ) : Type 0 where
  pub free : is_taken how words (underscored count name) ≡ false
  pub least : (fewer : ℕ) → fewer < count → is_taken how words (underscored fewer name) ≡ true

-- The text is the name after the fewest `_` with which it clashes with none of the words.
pub record IsFree (how : Clash) (words : List (List ℕ)) (name text : List ℕ) : Type 0 where
  pub count : ℕ
  pub is : text ≡ underscored count name
  pub fewest : IsFewest how words name count

-- The text is the name after the fewest `_` that make it none of the words.
abbrev pub IsChosen : List (List ℕ) → List ℕ → List ℕ → Type 0
IsChosen words name text = IsFree Whole words name text

-- The text is the name after the fewest `_` that make it a prefix of none of the words.
abbrev pub IsPrefix : List (List ℕ) → List ℕ → List ℕ → Type 0
IsPrefix words name text = IsFree Front words name text

-- The texts are chosen for the names one after the other, each of which is held from then on.
abbrev pub AreChosen : List (List ℕ) → List (List ℕ) → List (List ℕ) → Type 0
AreChosen words [] [] = Unit {0}
AreChosen words [] (text ∷ texts) = ⊥
AreChosen words (name ∷ names) [] = ⊥
AreChosen words (name ∷ names) (text ∷ texts) = IsChosen words name text × AreChosen (words ++ text ∷ []) names texts

-- The texts are pairwise distinct.
abbrev pub AreApart : List (List ℕ) → Type 0
AreApart [] = Unit {0}
AreApart (text ∷ texts) = (is_held texts text ≡ false) × AreApart texts

-- The first character other than `_`.
abbrev pub first_letter : List ℕ → Option ℕ
first_letter [] = None
first_letter (c ∷ cs) = if c == 95 then first_letter cs else Some c

-- Both characters are there, and they differ.
abbrev pub are_apart : Option ℕ → Option ℕ → Bool
are_apart None d = false
are_apart (Some c) None = false
are_apart (Some c) (Some d) = not (c == d)

-- Both names have a first character other than `_`, and these differ.
abbrev pub are_letters_apart : List ℕ → List ℕ → Bool
are_letters_apart name other = are_apart (first_letter name) (first_letter other)

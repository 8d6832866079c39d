-- Held words: those that chosen names must not be.
use Rattle.std.specs.Prelude.{◌↔◌, ◌⊎◌, ℕ, IsTrue, List, [], ◌∷◌}
use Rattle.educe_tokens.specs.declared.token.Token.{Token}
use Rattle.educe_names.specs.Chosen.{is_held}
use Rattle.educe_names.specs.Words.{HasWord}

-- The held words are exactly those of the tokens.
abbrev pub AreWordsOf : List Token → List (List ℕ) → Type 0
AreWordsOf tokens words = (word : List ℕ) → IsTrue (is_held words word) ↔ HasWord tokens word

-- The words of the tokens are held.
abbrev pub HoldWordsOf : List Token → List (List ℕ) → Type 0
HoldWordsOf tokens words = (word : List ℕ) → HasWord tokens word → IsTrue (is_held words word)

-- The new words are the old ones and those with the property.
abbrev pub Gains : List (List ℕ) → List (List ℕ) → (List ℕ → Type 0) → Type 0
Gains before after New = (word : List ℕ) → IsTrue (is_held after word) ↔ (IsTrue (is_held before word) ⊎ New word)

-- The list of the word, or the empty list if the word is empty.
abbrev pub some_word : List ℕ → List (List ℕ)
some_word [] = []
some_word (c ∷ cs) = (c ∷ cs) ∷ []

-- The commands of the program: their words, and what each does. A further command is a further row of `words_of` and of `meaning`.
use Rattle.std.specs.Prelude.{◌≡◌, ℕ, ◌≤◌, Option, None, Some, List, [], ◌∷◌, codes, decimal}
use Rattle.educe_body_items.specs.declared.items.Item.{Item}
use Rattle.educe_core_commands.specs.Commands.{Meaning, read, given}
use Rattle.educe_core.specs.declared.spoken.Spoken.{Spoken}
use Rattle.educe_core.specs.declared.spoken.Spoken.TheVariants.{Expand, Sample}
use Rattle.educe_core.specs.Headline.{IsExpansion, IsCause, IsValid}
use Rattle.educe_core.specs.Sample.{sample_text, IsSampleLine}

-- The words of a command.
abbrev pub words_of : Spoken → List (List ℕ)
words_of Expand = codes "expand" ∷ []
words_of (Sample count) = codes "sample" ∷ decimal count ∷ []

-- The number in the words is within its bounds.
abbrev pub IsWithin : Spoken → Type 0
IsWithin Expand = Unit {0}
IsWithin (Sample count) = (1 ≤ count) × (count ≤ 1000)

-- These words are the command.
pub record IsSpoken (command : Spoken) (words : List (List ℕ)) : Type 0 where
  pub are : words ≡ words_of command
  pub within : IsWithin command

-- The line that the notes gain on other words.
abbrev pub usage_line : List ℕ
usage_line = codes "usage: educe expand | educe sample N\n"

-- The text of an expansion of the input.
abbrev pub IsExpansionText : List ℕ → List ℕ → Type 0
IsExpansionText input output = (items : List Item) × IsExpansion input items output

-- What a command does: `expand` reads a definition and writes its impls; `sample` makes a definition, and writes a line about its impls.
-- Both reject a definition for the same causes.
abbrev pub meaning : Spoken → Meaning
meaning Expand = record { origin = read; IsOutput = IsExpansionText; IsCause = IsCause; IsValid = IsValid }
meaning (Sample count) = record { origin = given (sample_text count); IsOutput = IsSampleLine count; IsCause = IsCause; IsValid = IsValid }

-- The command that the words are, if they are one.
abbrev pub IsSpokenBy : List (List ℕ) → Option Spoken → Type 0
IsSpokenBy words None = (command : Spoken) → IsSpoken command words → ⊥
IsSpokenBy words (Some command) = IsSpoken command words

-- The number from 1 to 1000 that a word is, in decimal and without a leading zero, if it is one.
abbrev pub IsCount : List ℕ → Option ℕ → Type 0
IsCount word None = (n : ℕ) → 1 ≤ n → n ≤ 1000 → word ≡ decimal n → ⊥
IsCount word (Some n) = (word ≡ decimal n) × ((1 ≤ n) × (n ≤ 1000))

-- Laws of rules for generated text.
use Rattle.std.specs.Prelude.{◌≡◌, true, List, ◌++◌, Some, codes}
use Rattle.educe_text.specs.Prefixes.{Tokens, Front}
use Rattle.educe_text.specs.Rules.{TextRule, quote, many, begins, leaving, Spells}
use Rattle.educe_text.specs.Taking.{take}
use Rattle.educe_text.specs.FirstSets.{FirstSet, BeginsIn, decides, TestsTell}

-- Complete: each text of a rule that decides is taken, if what follows may. Unique: a list of tokens is the text of at most one
-- value. Sound: what is taken is a text.
pub record TextLaws {A : Type 0} (g : TextRule A) (more : FirstSet) : Type 0 where
  pub complete : decides g more ≡ true → TestsTell g more → (front rest : Tokens) (x : A) → Spells g front x → BeginsIn more rest
      → take g (front ++ rest) ≡ Some (x, rest)
  pub unique : decides g more ≡ true → TestsTell g more → (rest tokens : Tokens) (x y : A) → BeginsIn more rest → Spells g tokens x → Spells g tokens y
      → x ≡ y
  pub sound : (tokens rest : Tokens) (x : A) → take g tokens ≡ Some (x, rest) → Front (λ front. Spells g front x) tokens rest

-- A rule to state the laws of: steps, and an end.
abbrev pub steps : TextRule (List (Unit {0}))
steps = leaving (many (begins (codes "if")) (quote (codes "if { return false ; }"))) (codes "true")

-- Printouts with commas between, and those of a list that may have no items.
use Rattle.std.specs.Prelude.{ℕ, ◌==◌, List, [], ◌∷◌, if◌then◌else◌, codes}
use Rattle.std.proofs.Common.{refl}
use Rattle.educe_tokens.specs.Lexes.{Lexeme}
use Rattle.educe_tokens.specs.Quote.{quoted}
use Rattle.educe_body_forms.specs.Printouts.{Printout, nothing, says, ◌beside◌, each}

-- A comma before the item at an index, but none before the first.
abbrev pub comma_before : ℕ → List Lexeme
comma_before index = if index == 0 then [] else quoted (codes ",")

-- The printouts of a list's items, in order, with a comma between any two.
abbrev pub separated : {X : Type 0} → (X → Printout) → List X → Printout
separated f [] = nothing
separated f (x ∷ xs) = f x beside each (λ y. says (codes ",") refl beside f y) xs

-- Nothing where the list has no items, and else this printout.
abbrev pub unless_empty : {X : Type 0} → List X → Printout → Printout
unless_empty [] printout = nothing
unless_empty (x ∷ xs) printout = printout

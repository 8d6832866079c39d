-- Token lists that an interner holds, each under a number: its place, counted from 0.
use Rattle.std.specs.Prelude.{◌≡◌, ◌↔◌, ℕ, Bool, true, false, List, [], ◌∷◌, ◌++◌, map, length, Some, slice_get}
use Rattle.educe_tokens.specs.declared.token.Token.{Token}
use Rattle.educe_tokens.specs.Lexes.{Lexeme}
use Rattle.educe_tokens.specs.Same.{lexemes_aside}
use Rattle.educe_tokens_interner.specs.Distinct.{Has, AreDistinct}

-- Each list by its tokens, spans and jointness aside.
abbrev pub aside : List (List Token) → List (List Lexeme)
aside lists = map lexemes_aside lists

-- One of the lists is equal to these tokens.
abbrev pub IsHeld : List (List Token) → List Token → Type 0
IsHeld lists tokens = Has (aside lists) (lexemes_aside tokens)

-- The list under the number is equal to these tokens.
abbrev pub IsUnder : List (List Token) → ℕ → List Token → Type 0
IsUnder lists number tokens = slice_get (aside lists) number ≡ Some (lexemes_aside tokens)

-- No two of the lists are equal.
abbrev pub AreApart : List (List Token) → Type 0
AreApart lists = AreDistinct (aside lists)

-- Tokens are interned under a number: an equal list is under it, and nothing changes; or none of the lists is equal to
-- the tokens, which become the last list.
pub data Interns : List (List Token) → List Token → ℕ → List (List Token) → Type 0 where
  held : (lists : List (List Token)) (tokens : List Token) (number : ℕ) → IsUnder lists number tokens → Interns lists tokens number lists
  added : (lists : List (List Token)) (tokens : List Token) → (IsHeld lists tokens → ⊥) → Interns lists tokens (length lists) (lists ++ tokens ∷ [])

-- ---- the law

-- Token lists are interned one after the other; each is paired with the number that it was given.
pub data Runs : List (List Token) → List (List Token × ℕ) → List (List Token) → Type 0 where
  none : (lists : List (List Token)) → Runs lists [] lists
  interned : {before next after : List (List Token)} (tokens : List Token) (number : ℕ) {more : List (List Token × ℕ)}
      → Interns before tokens number next → Runs next more after → Runs before ((tokens, number) ∷ more) after

-- Two lists that were interned have one number exactly where they are equal.
abbrev pub SameExactly : Type 0
SameExactly =
    (given : List (List Token × ℕ)) (after : List (List Token)) → Runs [] given after
    → (one other : List Token × ℕ) → Has given one → Has given other → (one.1 ≡ other.1) ↔ (lexemes_aside one.0 ≡ lexemes_aside other.0)

-- A number once given stays: whatever is interned later, the list under it is equal to the one that it was given to.
abbrev pub NumbersStay : Type 0
NumbersStay =
    (given : List (List Token × ℕ)) (after : List (List Token)) → Runs [] given after
    → (one : List Token × ℕ) → Has given one → IsUnder after one.1 one.0

-- ---- answers

-- The answer is true exactly where this holds.
abbrev pub Tells : Bool → Type 0 → Type 0
Tells true P = P
Tells false P = P → ⊥

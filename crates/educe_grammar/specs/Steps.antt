-- The steps that parsers are made of.
use Rattle.std.specs.Prelude.{◌≡◌, ◌≢◌, ℕ, zero, suc, ◌-◌, Bool, true, false, List, [], ◌∷◌, length, take, drop, refl, Option, Some, None, IsTrue, Result, Ok, Err, ◌⊎◌}
use denote.Ref.{Bor, MutBor}
use Rattle.educe_tokens.specs.declared.token.Token.{Token}
use Rattle.educe_grammar.specs.declared.operator.Operator.{Operator}
use Rattle.educe_grammar.specs.declared.parse_error.ParseError.{ParseError}
use Rattle.educe_grammar.specs.declared.parse_error.ParseError.TheVariants.{Memory, Syntax, TooDeep}

-- A list of tokens.
abbrev pub Tokens : Type 0
Tokens = List Token

-- A value with the tokens that remain, or a rejection: its kind, with how many tokens remain at its place, or out of memory.
abbrev pub Outcome : Type 0 → Type 0
Outcome A = Result (A × Tokens) ParseError

-- A program: it has an outcome for each list of tokens.
abbrev pub Parser : Type 0 → Type 0
Parser A = Tokens → Outcome A

-- Continue with the value and the tokens that remain.
abbrev pub and_then : {A B : Type 0} → Outcome A → (A → Parser B) → Outcome B
and_then (Ok p) f = f p.0 p.1
and_then (Err e) f = Err e

-- The rejection of the tokens that are left as a syntax error.
abbrev pub refuse : {A : Type 0} → Parser A
refuse = λ ts. Err (Syntax (length ts))

-- A token that passes the test.
pub record Found (test : Token → Bool) : Type 0 where
  pub token : Token
  pub passes : IsTrue (test token)

-- This token, as one that passes the test, or a rejection.
abbrev pub found_if : (test : Token → Bool) (t : Token) (ts : Tokens) (b : Bool) → test t ≡ b → Outcome (Found test)
found_if test t ts true passes = Ok (record { token = t; passes = passes }, ts)
found_if test t ts false fails = Err (Syntax (length (t ∷ ts)))

-- Takes a token that passes the test, and rejects any other.
unfoldable pub expect : (test : Token → Bool) → Parser (Found test)
expect test [] = Err (Syntax 0)
expect test (t ∷ ts) = found_if test t ts (test t) refl

-- Enters a level of nesting, which takes one of the budget. Without budget it is too deep, at the token just taken, at
-- which `left` tokens were left.
unfoldable pub enter : ℕ → ℕ → Parser (Unit {0})
enter zero left ts = Err (TooDeep left)
enter (suc budget) left ts = Ok (tt, ts)

-- The tokens that were read since the first list was left.
unfoldable pub since : Tokens → Tokens → Tokens
since start rest = take (length start - length rest) start

-- What a function that parses promises, over any state, a list of tokens or a `ParseStream`: on Ok it has the program's value and
-- leaves the state that the program leaves; an error is the program's rejection or out of memory.
abbrev pub Gives : {S A : Type 0} → Result (A × S) ParseError → Result A ParseError → S → Type 0
Gives outcome (Ok a) new = outcome ≡ Ok (a, new)
Gives outcome (Err e) new = e ≢ Memory → outcome ≡ Err e

-- The postcondition of a function that lends a token that passes the test, which takes no memory.
abbrev pub Lends : {test : Token → Bool} → Outcome (Found test) → Result (Bor Token) ParseError → Tokens → Type 0
Lends {test = test} outcome (Ok t) new = (passes : IsTrue (test t.now)) × (outcome ≡ Ok (record { token = t.now; passes = passes }, new))
Lends outcome (Err e) new = outcome ≡ Err e

-- What a function promises that takes such a token if it comes next, and otherwise changes nothing.
abbrev pub Eats : {test : Token → Bool} → Outcome (Found test) → Bool → Tokens → Tokens → Type 0
Eats {test = test} outcome true old new = (found : Found test) × (outcome ≡ Ok (found, new))
Eats outcome false old new = new ≡ old

-- The postcondition of a function that only advances, which takes no memory.
abbrev pub Passes : {A : Type 0} → Outcome (Unit {0}) → Result A ParseError → Tokens → Type 0
Passes outcome (Ok a) new = outcome ≡ Ok (tt, new)
Passes outcome (Err e) new = outcome ≡ Err e

-- The postcondition of a function that takes an opener and returns the budget inside.
abbrev pub Opens : {A : Type 0} → Outcome A → ℕ → Tokens → Result ℕ ParseError → Tokens → Type 0
Opens {A = A} opener budget old (Ok below) new = (x : A) × (opener ≡ Ok (x, new)) × (enter budget (length old) new ≡ Ok (tt, new))
Opens {A = A} opener budget old (Err e) new =
    (opener ≡ Err e) ⊎ ((x : A) × (rest : Tokens) × (opener ≡ Ok (x, rest)) × (enter budget (length old) rest ≡ Err e))

-- The postcondition of a function that takes an operator, given the longest one that comes next and its length.
abbrev pub Operates : Option (Operator × ℕ) → Result Operator ParseError → Tokens → Tokens → Type 0
Operates longest (Ok o) old new = (n : ℕ) × (longest ≡ Some (o, n)) × (new ≡ drop n old)
Operates longest (Err e) old new = (longest ≡ None) × (e ≡ Syntax (length old))

-- A function value that parses what this program does.
pub record ReadsAs {S A : Type 0} (read : S → Result (A × S) ParseError) (post : MutBor S → Result A ParseError → MutBor S → Type 0) : Type 0 where
  pub reads : (old new : MutBor S) (r : Result A ParseError) → post old r new → Gives (read old.now) r new.now

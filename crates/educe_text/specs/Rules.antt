-- Rules for generated text: its productions are made of fixed tokens and of parts that have a grammar of their own.
use Rattle.std.specs.Prelude.{◌≡◌, ◌⊎◌, ℕ, Bool, true, false, not, ◌||◌, IsTrue, List, [], ◌∷◌, ◌++◌, Option, Some}
use Rattle.educe_tokens.specs.declared.token.Token.{Token}
use Rattle.educe_tokens.specs.Lexes.{Lexeme, lexeme_of, lexemes}
use Rattle.educe_tokens.specs.Quote.{quoted}
use Rattle.educe_text.specs.Prefixes.{Tokens, Front, starts_with}
use Rattle.educe_text.specs.Signs.{Sign, passes, Follower, MayFollow}

-- Which token lists are the text of which value.
abbrev pub Grammar : Type 0 → Type 1
Grammar A = Tokens → A → Type 0

-- The texts of the items, one behind the other.
pub data Repeated {A : Type 0} (Item : Grammar A) : Tokens → List A → Type 0 where
  none : Repeated Item [] []
  more : {x : A} {xs : List A} (front rest : Tokens) → Item front x → Repeated Item rest xs → Repeated Item (front ++ rest) (x ∷ xs)

-- One of the signs says so of the token.
abbrev pub passes_one : List Sign → Lexeme → Bool
passes_one [] m = false
passes_one (s ∷ ss) m = passes s m || passes_one ss m

-- How the text of a part begins: with a token of one of these signs, and where the part is one token, with nothing more.
pub record BeginsSo (firsts : List Sign) (single : Bool) (tokens : Tokens) : Type 0 where
  pub first : Token
  pub more : Tokens
  pub is : tokens ≡ first ∷ more
  pub fits : IsTrue (passes_one firsts (lexeme_of first))
  pub alone : single ≡ true → more ≡ []

-- A part that has a grammar of its own: its texts, the program that takes one off the front of a list, its first tokens, whether
-- it is one token, and what may follow it. The program takes each text where what follows may, and takes nothing else.
pub record Leaf (A : Type 0) : Type 1 where
  pub Is : Grammar A
  pub take : Tokens → Option (A × Tokens)
  pub firsts : List Sign
  pub single : Bool
  pub follower : Follower
  pub begins : (front : Tokens) (x : A) → Is front x → BeginsSo firsts single front
  pub complete : (front rest : Tokens) (x : A) → Is front x → MayFollow follower rest → take (front ++ rest) ≡ Some (x, rest)
  pub sound : (tokens rest : Tokens) (x : A) → take tokens ≡ Some (x, rest) → Front (λ front. Is front x) tokens rest

-- What a program looks for in the tokens ahead of it.
pub data Lookahead : Type 0 where
  -- the tokens of this template
  begins : List ℕ → Lookahead
  -- anything but the tokens of this template
  lacks : List ℕ → Lookahead
  -- what passes this test
  sees : (Tokens → Bool) → Lookahead

-- The lookahead holds of the tokens ahead.
abbrev pub holds : Lookahead → Tokens → Bool
holds (begins text) ts = starts_with text ts
holds (lacks text) ts = not (starts_with text ts)
holds (sees test) ts = test ts

-- A rule for a production, and what it is the text of.
pub data TextRule : Type 0 → Type 1 where
  -- the tokens of a template
  quote : List ℕ → TextRule (Unit {0})
  -- a part
  leaf : {A : Type 0} → Leaf A → TextRule A
  -- one rule, and then the other
  both : {A B : Type 0} → TextRule A → TextRule B → TextRule (A × B)
  -- the value that is made of another
  made : {A B : Type 0} → (A → B) → TextRule A → TextRule B
  -- only where the value passes a test
  checked : {A : Type 0} → (A → Bool) → TextRule A → TextRule A
  -- one of two: the first exactly where the lookahead holds
  either : {A : Type 0} → Lookahead → TextRule A → TextRule A → TextRule A
  -- one behind the other, as long as the lookahead holds
  many : {A : Type 0} → Lookahead → TextRule A → TextRule (List A)

-- The tokens are the text of the value by the rule, jointness included. No lookahead counts here.
unfoldable pub Spells : {A : Type 0} → TextRule A → Grammar A
Spells (quote text) tokens x = lexemes tokens ≡ quoted text
Spells (leaf l) tokens x = l.Is tokens x
Spells (both g h) tokens x = (front : Tokens) × (rest : Tokens) × (tokens ≡ front ++ rest) × Spells g front x.0 × Spells h rest x.1
Spells (made {A = A} f g) tokens y = (x : A) × (y ≡ f x) × Spells g tokens x
Spells (checked test g) tokens x = IsTrue (test x) × Spells g tokens x
Spells (either look g h) tokens x = Spells g tokens x ⊎ Spells h tokens x
Spells (many look g) tokens xs = Repeated (Spells g) tokens xs

-- ---- rules made of others

-- The tokens of a template, and then the rule.
abbrev pub skipping : {A : Type 0} → List ℕ → TextRule A → TextRule A
skipping text g = made (λ p. p.1) (both (quote text) g)

-- The rule, and then the tokens of a template.
abbrev pub leaving : {A : Type 0} → TextRule A → List ℕ → TextRule A
leaving g text = made (λ p. p.0) (both g (quote text))

-- The rule between the tokens of two templates.
abbrev pub between : {A : Type 0} → List ℕ → TextRule A → List ℕ → TextRule A
between opening g closing = skipping opening (leaving g closing)

-- The tokens of a template, for this value.
abbrev pub constant : {A : Type 0} → List ℕ → A → TextRule A
constant text x = made (λ _. x) (quote text)

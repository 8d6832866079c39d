-- The readings of whole token lists by a rule: a declarative relation, with no position and no lookahead.
use Rattle.std.specs.Prelude.{◌≡◌, ℕ, ◌-◌, ◌<◌, ◌≤◌, Bool, true, false, IsTrue, List, [], ◌∷◌, ◌++◌, length, drop, Some, ◌⊎◌}
use Rattle.educe_tokens.specs.declared.brackets.TheConstants.{NESTING}
use Rattle.educe_tokens.specs.declared.token.Token.{Token}
use Rattle.educe_grammar.specs.declared.terminal.Terminal.TheVariants.{Sign}
use Rattle.educe_grammar.specs.Terminals.{accepts}
use Rattle.educe_grammar.specs.Steps.{Tokens}
use Rattle.educe_grammar.specs.Ahead.{sees, opens, closes, begins_pair, begins_lone}
use Rattle.educe_grammar.specs.Operators.{operator_at}
use Rattle.educe_grammar.specs.Rules.{Rule, token, documentation, empty, both, made, checked, either, prefer, operator, lone, binary, nest, angles, under, arrow, list, many, chain, path, sliced, written, part, Part, TreeOf}

-- A relation between token lists and values.
abbrev pub Grammar : Type 0 → Type 1
Grammar A = Tokens → A → Type 0

-- Which tokens are which value, for each part and budget.
abbrev pub Parts : Type 1
Parts = ℕ → (p : Part) → Grammar (TreeOf p)

-- The limit on the links of a chain.
abbrev pub chain_limit : ℕ
chain_limit = NESTING

module _ {A : Type 0} (Item : Grammar A) where
  -- A list of items with separators between them and an optional trailing one.
  pub data Listed (separates : Token → Bool) : Tokens → List A → Type 0 where
    none : Listed separates [] []
    last : {x : A} (tokens : Tokens) → Item tokens x → Listed separates tokens (x ∷ [])
    more : {x : A} {xs : List A} (front rest : Tokens) (separator : Token) → Item front x → IsTrue (separates separator) → Listed separates rest xs
        → Listed separates (front ++ separator ∷ rest) (x ∷ xs)

  -- Items one after the other, without a separator.
  pub data Repeated : Tokens → List A → Type 0 where
    none : Repeated [] []
    more : {x : A} {xs : List A} (front rest : Tokens) → Item front x → Repeated rest xs → Repeated (front ++ rest) (x ∷ xs)

  -- At least one item, with `::` between items.
  pub data Linked : Tokens → List A → Type 0 where
    last : {x : A} (tokens : Tokens) → Item tokens x → Linked tokens (x ∷ [])
    more : {x : A} {xs : List A} (front rest : Tokens) (first second : Token) → Item front x → begins_pair 58 58 (first ∷ second ∷ rest) ≡ true → Linked rest xs
        → Linked (front ++ first ∷ second ∷ rest) (x ∷ xs)

-- An opening token, the content with one less of the budget, and a closing token.
pub record Between {A : Type 0} (Inside : Grammar A) (budget : ℕ) (opening closing : Token → Bool) (tokens : Tokens) (x : A) : Type 0 where
  pub first : Token
  pub inside : Tokens
  pub last : Token
  pub is : tokens ≡ first ∷ (inside ++ last ∷ [])
  pub allowed : 0 < budget
  pub opens : IsTrue (opening first)
  pub closes : IsTrue (closing last)
  pub reads : Inside inside x

-- An opening token, and the content with one less of the budget.
pub record Under {A : Type 0} (Inside : Grammar A) (budget : ℕ) (opening : Token → Bool) (tokens : Tokens) (x : A) : Type 0 where
  pub first : Token
  pub inside : Tokens
  pub is : tokens ≡ first ∷ inside
  pub allowed : 0 < budget
  pub opens : IsTrue (opening first)
  pub reads : Inside inside x

-- The tokens have the value by the rule with this budget, given relations for the parts.
unfoldable pub Parses : Parts → ℕ → {A : Type 0} → Rule A → Grammar A
Parses parts budget (token asked) tokens found = tokens ≡ found.token ∷ []
Parses parts budget documentation tokens found = tokens ≡ found.token ∷ []
Parses parts budget (empty x) tokens y = (tokens ≡ []) × (y ≡ x)
Parses parts budget (both g h) tokens x =
    (front : Tokens) × (rest : Tokens) × (tokens ≡ front ++ rest) × Parses parts budget g front x.0 × Parses parts budget h rest x.1
Parses parts budget (made {A = A} f g) tokens y = (x : A) × (y ≡ f x) × Parses parts budget g tokens x
Parses parts budget (checked test g) tokens x = IsTrue (test x) × Parses parts budget g tokens x
Parses parts budget (either look g h) tokens x = Parses parts budget g tokens x ⊎ Parses parts budget h tokens x
Parses parts budget (prefer asked g h) tokens x =
    Parses parts budget g tokens x ⊎ ((sees (accepts asked) tokens ≡ false) × Parses parts budget h tokens x)
Parses parts budget (operator c d) tokens x = (length tokens ≡ 2) × (begins_pair c d tokens ≡ true)
Parses parts budget (lone c d g) tokens x =
    (first : Token) × (rest : Tokens) × (tokens ≡ first ∷ rest) × (begins_lone c d tokens ≡ true) × Parses parts budget g rest x
Parses parts budget (binary g) tokens x = (n : ℕ) × (operator_at tokens ≡ Some (x.0, n)) × Parses parts budget g (drop n tokens) x.1
Parses parts budget (nest b g) tokens x = Between (Parses parts (budget - 1) g) budget (opens b) (closes b) tokens x
Parses parts budget (angles g) tokens x =
    Between (Parses parts (budget - 1) g) budget (accepts (Sign 60)) (accepts (Sign 62)) tokens x × (begins_lone 60 61 tokens ≡ true)
Parses parts budget (under asked g) tokens x = Under (Parses parts (budget - 1) g) budget (accepts asked) tokens x
Parses parts budget (arrow g) tokens x =
    (first : Token) × (second : Token) × (inside : Tokens) × (tokens ≡ first ∷ second ∷ inside) × (0 < budget) × (begins_pair 45 62 tokens ≡ true) × Parses parts (budget - 1) g inside x
Parses parts budget (list separator stop g) tokens xs = Listed (Parses parts budget g) (accepts separator) tokens xs
Parses parts budget (many look g) tokens xs = Repeated (Parses parts budget g) tokens xs
Parses parts budget (chain look g) tokens xs = Repeated (Parses parts budget g) tokens xs × (length xs ≤ chain_limit)
Parses parts budget (path g) tokens xs = Linked (Parses parts budget g) tokens xs
Parses parts budget (sliced g) tokens x = Parses parts budget g tokens x.0 × (x.1 ≡ tokens)
Parses parts budget (written g) tokens x = Parses parts budget g tokens x.0 × (x.1.tokens ≡ tokens)
Parses parts budget (part p) tokens x = parts budget p tokens x

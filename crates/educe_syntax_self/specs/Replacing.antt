-- The replacement of each `Self` that begins a path, as a relation guided by the rule that parses the tokens. The
-- arguments of the `Self` are dropped. The path of a macro call is unchanged.
use Rattle.std.specs.Prelude.{◌≡◌, ℕ, zero, suc, ◌-◌, ◌<◌, ◌≤◌, Bool, true, false, IsTrue, List, [], ◌∷◌, ◌++◌, length, take, drop, Some, ◌⊎◌, not, ◌&&◌}
use Rattle.educe_tokens.specs.declared.token.Token.{Token}
use Rattle.educe_grammar.specs.declared.terminal.Terminal.TheVariants.{Sign}
use Rattle.educe_grammar.specs.Terminals.{accepts}
use Rattle.educe_grammar.specs.Steps.{Tokens}
use Rattle.educe_grammar.specs.Ahead.{sees, opens, closes, begins_pair, begins_lone}
use Rattle.educe_grammar.specs.Operators.{operator_at}
use Rattle.educe_grammar.specs.Reading.{Parts, Parses, chain_limit}
use Rattle.educe_grammar.specs.Parsed.{depth_limit}
use Rattle.educe_grammar.specs.Reads.{rule_of, parts}
use Rattle.educe_syntax_self.specs.Selves.{begins_self, begins_call}
use Rattle.educe_grammar.specs.Rules.{Rule, token, documentation, empty, both, made, checked, either, prefer, operator, lone, binary, nest, angles, under, arrow, list, many, chain, path, sliced, written, part, Part, TreeOf}

-- A relation: between the tokens before and behind, these tokens with their value become those with theirs.
abbrev pub Change : Type 0 → Type 1
Change A = Tokens → Tokens → Tokens → A → Tokens → A → Type 0

-- The relations of the parts, for any budget.
abbrev pub Changes : Type 1
Changes = ℕ → (p : Part) → Change (TreeOf p)

-- The list ends with `::`.
unfoldable pub ends_in_colons : Tokens → Bool
ends_in_colons [] = false
ends_in_colons (t ∷ []) = false
ends_in_colons (t ∷ u ∷ []) = begins_pair 58 58 (t ∷ u ∷ [])
ends_in_colons (t ∷ u ∷ v ∷ more) = ends_in_colons (u ∷ v ∷ more)

-- The path begins with `Self`, without `::` before it, and isn't that of a macro call.
abbrev pub is_replaced : Tokens → Tokens → Tokens → Bool
is_replaced before tokens behind = begins_self tokens && (not (ends_in_colons before) && not (begins_call behind))

module _ {A : Type 0} (Item : Change A) where
  -- A list of items with separators between them and an optional trailing one, changed item by item.
  pub data Listed (separates : Token → Bool) : Tokens → Tokens → Tokens → List A → Tokens → List A → Type 0 where
    none : {before behind : Tokens} → Listed separates before [] behind [] [] []
    last : {x y : A} {before behind : Tokens} (tokens out : Tokens) → Item before tokens behind x out y → Listed separates before tokens behind (x ∷ []) out (y ∷ [])
    more : {x y : A} {xs ys : List A} {before behind : Tokens} (front rest out later : Tokens) (separator : Token) → Item before front (separator ∷ rest ++ behind) x out y → IsTrue (separates separator)
        → Listed separates (before ++ front ++ separator ∷ []) rest behind xs later ys → Listed separates before (front ++ separator ∷ rest) behind (x ∷ xs) (out ++ separator ∷ later) (y ∷ ys)

  -- A sequence of items, changed item by item.
  pub data Repeated : Tokens → Tokens → Tokens → List A → Tokens → List A → Type 0 where
    none : {before behind : Tokens} → Repeated before [] behind [] [] []
    more : {x y : A} {xs ys : List A} {before behind : Tokens} (front rest out later : Tokens) → Item before front (rest ++ behind) x out y
        → Repeated (before ++ front) rest behind xs later ys → Repeated before (front ++ rest) behind (x ∷ xs) (out ++ later) (y ∷ ys)

-- The change of the first segment of a path or that of a later one, as the flag says.
abbrev pub One : {A : Type 0} → Change A → Change A → Bool → Change A
One First Item true before tokens behind x out y = First before tokens behind x out y
One First Item false before tokens behind x out y = Item before tokens behind x out y

module _ {A : Type 0} (First Item : Change A) where
  -- The segments of a path, changed one by one; the flag says that the first of them is the first of its path.
  pub data Linked : Bool → Tokens → Tokens → Tokens → List A → Tokens → List A → Type 0 where
    last : {x y : A} {before behind : Tokens} {flag : Bool} (tokens out : Tokens) → One First Item flag before tokens behind x out y → Linked flag before tokens behind (x ∷ []) out (y ∷ [])
    more : {x y : A} {xs ys : List A} {before behind : Tokens} {flag : Bool} (front rest out later : Tokens) (first second : Token) → One First Item flag before front (first ∷ second ∷ rest ++ behind) x out y
        → begins_pair 58 58 (first ∷ second ∷ rest) ≡ true → begins_pair 58 58 (first ∷ second ∷ later) ≡ true
        → Linked false (before ++ front ++ first ∷ second ∷ []) rest behind xs later ys → Linked flag before (front ++ first ∷ second ∷ rest) behind (x ∷ xs) (out ++ first ∷ second ∷ later) (y ∷ ys)

-- An opening token, the changed content with one less of the budget, and a closing token.
pub record Between {A : Type 0} (Inside : Change A) (budget : ℕ) (opening closing : Token → Bool) (before tokens behind : Tokens) (x : A) (out : Tokens) (y : A) : Type 0 where
  pub first : Token
  pub inside : Tokens
  pub changed : Tokens
  pub last : Token
  pub is : tokens ≡ first ∷ (inside ++ last ∷ [])
  pub becomes : out ≡ first ∷ (changed ++ last ∷ [])
  pub allowed : 0 < budget
  pub opens : IsTrue (opening first)
  pub closes : IsTrue (closing last)
  pub reads : Inside (before ++ first ∷ []) inside (last ∷ behind) x changed y

-- An opening token, and the changed content with one less of the budget.
pub record Under {A : Type 0} (Inside : Change A) (budget : ℕ) (opening : Token → Bool) (before tokens behind : Tokens) (x : A) (out : Tokens) (y : A) : Type 0 where
  pub first : Token
  pub inside : Tokens
  pub changed : Tokens
  pub is : tokens ≡ first ∷ inside
  pub becomes : out ≡ first ∷ changed
  pub allowed : 0 < budget
  pub opens : IsTrue (opening first)
  pub reads : Inside (before ++ first ∷ []) inside behind x changed y

-- The first segment of a path becomes the new beginning, whose reading is the new value; or it stays as it is.
abbrev pub FirstOf : (new : Tokens) → Parts → ℕ → {A : Type 0} → Rule A → Bool → Change A → Change A
FirstOf new all budget g true stays before tokens behind x out y = (out ≡ new) × Parses all (suc budget) g out y
FirstOf new all budget g false stays before tokens behind x out y = stays before tokens behind x out y

module _ (new : Tokens) (parts : Parts) (changes : Changes) where
  -- By the rule, with a budget, these tokens, which are this value, become those, which are that value: each path that begins
  -- with `Self` and is replaced begins with the head instead, and everything else is kept.
  unfoldable pub Replaces : ℕ → {A : Type 0} → Rule A → Change A
  Replaces budget (token asked) before tokens behind x out y = (tokens ≡ x.token ∷ []) × (out ≡ tokens) × (y ≡ x)
  Replaces budget documentation before tokens behind x out y = (tokens ≡ x.token ∷ []) × (out ≡ tokens) × (y ≡ x)
  Replaces budget (empty z) before tokens behind x out y = (tokens ≡ []) × (x ≡ z) × (out ≡ []) × (y ≡ z)
  Replaces budget (both g h) before tokens behind x out y =
      (front : Tokens) × (rest : Tokens) × (first : Tokens) × (later : Tokens) × (tokens ≡ front ++ rest) × (out ≡ first ++ later)
      × Replaces budget g before front (rest ++ behind) x.0 first y.0 × Replaces budget h (before ++ front) rest behind x.1 later y.1
  Replaces budget (made {A = A} f g) before tokens behind x out y = (u : A) × (v : A) × (x ≡ f u) × (y ≡ f v) × Replaces budget g before tokens behind u out v
  Replaces budget (checked test g) before tokens behind x out y = IsTrue (test x) × IsTrue (test y) × Replaces budget g before tokens behind x out y
  Replaces budget (either look g h) before tokens behind x out y = Replaces budget g before tokens behind x out y ⊎ Replaces budget h before tokens behind x out y
  Replaces budget (prefer asked g h) before tokens behind x out y =
      Replaces budget g before tokens behind x out y ⊎ ((sees (accepts asked) tokens ≡ false) × (sees (accepts asked) out ≡ false) × Replaces budget h before tokens behind x out y)
  Replaces budget (operator c d) before tokens behind x out y = (length tokens ≡ 2) × (begins_pair c d tokens ≡ true) × (out ≡ tokens)
  Replaces budget (lone c d g) before tokens behind x out y =
      (first : Token) × (rest : Tokens) × (later : Tokens) × (tokens ≡ first ∷ rest) × (out ≡ first ∷ later) × (begins_lone c d tokens ≡ true) × (begins_lone c d out ≡ true)
      × Replaces budget g (before ++ first ∷ []) rest behind x later y
  Replaces budget (binary g) before tokens behind x out y =
      (n : ℕ) × (operator_at tokens ≡ Some (x.0, n)) × (operator_at out ≡ Some (y.0, n)) × (take n out ≡ take n tokens) × (y.0 ≡ x.0)
      × Replaces budget g (before ++ take n tokens) (drop n tokens) behind x.1 (drop n out) y.1
  Replaces budget (nest b g) before tokens behind x out y = Between (Replaces (budget - 1) g) budget (opens b) (closes b) before tokens behind x out y
  Replaces budget (angles g) before tokens behind x out y =
      Between (Replaces (budget - 1) g) budget (accepts (Sign 60)) (accepts (Sign 62)) before tokens behind x out y × (begins_lone 60 61 tokens ≡ true) × (begins_lone 60 61 out ≡ true)
  Replaces budget (under asked g) before tokens behind x out y = Under (Replaces (budget - 1) g) budget (accepts asked) before tokens behind x out y
  Replaces budget (arrow g) before tokens behind x out y =
      (first : Token) × (second : Token) × (inside : Tokens) × (changed : Tokens) × (tokens ≡ first ∷ second ∷ inside) × (out ≡ first ∷ second ∷ changed) × (0 < budget)
      × (begins_pair 45 62 tokens ≡ true) × (begins_pair 45 62 out ≡ true) × Replaces (budget - 1) g (before ++ first ∷ second ∷ []) inside behind x changed y
  Replaces budget (list separator stop g) before tokens behind x out y = Listed (Replaces budget g) (accepts separator) before tokens behind x out y
  Replaces budget (many look g) before tokens behind x out y = Repeated (Replaces budget g) before tokens behind x out y
  Replaces budget (chain look g) before tokens behind x out y = Repeated (Replaces budget g) before tokens behind x out y × (length y ≤ chain_limit)
  Replaces budget (path g) before tokens behind x out y =
      Linked (FirstOf new parts budget g (is_replaced before tokens behind) (Replaces budget g)) (Replaces budget g) true before tokens behind x out y
  Replaces budget (sliced g) before tokens behind x out y = Replaces budget g before tokens behind x.0 out y.0 × (x.1 ≡ tokens) × (y.1 ≡ out)
  Replaces budget (written g) before tokens behind x out y = Replaces budget g before tokens behind x.0 out y.0 × (x.1.tokens ≡ tokens) × (y.1.tokens ≡ out)
  Replaces budget (part p) before tokens behind x out y = changes budget p before tokens behind x out y

-- The relations of the parts for budgets below the first number.
unfoldable pub changes_below : Tokens → ℕ → Changes
changes_below new zero budget p = λ before tokens behind x out y. ⊥
changes_below new (suc n) budget p = λ before tokens behind x out y. Replaces new parts (changes_below new n) budget (rule_of p) before tokens behind x out y

-- By the rule and within the limits, the whole list with its value becomes the other list with its value.
abbrev pub Changed : Tokens → {A : Type 0} → Rule A → Tokens → A → Tokens → A → Type 0
Changed new g tokens x out y = Replaces new parts (changes_below new (suc depth_limit)) depth_limit g [] tokens [] x out y

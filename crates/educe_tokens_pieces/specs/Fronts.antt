-- Prefixes of a text and the rest after them.
use Rattle.std.specs.Prelude.{◌≡◌, ℕ, ◌==◌, Bool, false, ◌&&◌, IsTrue, List, [], ◌∷◌, ◌++◌}

-- The text is a prefix that passes the test, followed by the rest.
pub record HasFront (test : List ℕ → Bool) (text rest : List ℕ) : Type 0 where
  pub front : List ℕ
  pub is : text ≡ front ++ rest
  pub passes : IsTrue (test front)

-- The last character of the list is this one.
abbrev pub is_last : ℕ → List ℕ → Bool
is_last mark [] = false
is_last mark (c ∷ []) = c == mark
is_last mark (c ∷ d ∷ cs) = is_last mark (d ∷ cs)

-- The list begins with these two characters, in this order.
abbrev pub begins_pair : ℕ → ℕ → List ℕ → Bool
begins_pair a b [] = false
begins_pair a b (c ∷ []) = false
begins_pair a b (c ∷ d ∷ cs) = (c == a) && (d == b)

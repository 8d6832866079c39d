-- The tokens behind a beginning, by their number.
use Rattle.std.proofs.Common.{◌≡◌, ℕ, [], ◌∷◌, drop, refl}
use Rattle.educe_tokens.specs.Bracket.{Bracket}
use Rattle.educe_grammar.specs.declared.terminal.Terminal.{Terminal}
use Rattle.educe_grammar.specs.Steps.{Tokens}
use Rattle.educe_grammar.specs.Ahead.{one, start, pair, behind}

pub behind_one : (asked : Terminal) (ts : Tokens) → behind (one asked) ts ≡ drop 1 ts
unfolding behind
behind_one asked [] = refl
behind_one asked (t ∷ ts) = refl

pub behind_start : (b : Bracket) (ts : Tokens) → behind (start b) ts ≡ drop 1 ts
unfolding behind
behind_start b [] = refl
behind_start b (t ∷ ts) = refl

pub behind_pair : (c d : ℕ) (ts : Tokens) → behind (pair c d) ts ≡ drop 2 ts
unfolding behind
behind_pair c d [] = refl
behind_pair c d (t ∷ []) = refl
behind_pair c d (t ∷ u ∷ ts) = refl

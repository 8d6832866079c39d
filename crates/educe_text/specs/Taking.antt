-- The program that reads a rule: it takes the text of a value off the front of a list, by lookahead alone.
use Rattle.std.specs.Prelude.{ℕ, zero, suc, Bool, true, false, if◌then◌else◌, List, [], ◌∷◌, length, Option, Some, None}
use Rattle.educe_tokens.specs.Quote.{quoted}
use Rattle.educe_text.specs.Prefixes.{Tokens, strip_lexemes}
use Rattle.educe_text.specs.Rules.{holds, TextRule, quote, leaf, both, made, checked, either, many}

-- A value and the tokens behind it, or none.
abbrev pub Taken : Type 0 → Type 0
Taken A = Option (A × Tokens)

-- What is taken behind a value.
abbrev pub and_then : {A B : Type 0} → Taken A → (A → Tokens → Taken B) → Taken B
and_then None f = None
and_then (Some p) f = f p.0 p.1

-- The value, where it passes.
abbrev pub taken_if : {A : Type 0} → Bool → A → Tokens → Taken A
taken_if true x rest = Some (x, rest)
taken_if false x rest = None

-- Nothing but the tokens behind.
abbrev pub behind : Option Tokens → Taken (Unit {0})
behind None = None
behind (Some rest) = Some (tt, rest)

-- The items as long as the lookahead holds; the number bounds the turns.
unfoldable pub repeat : {A : Type 0} → (Tokens → Bool) → (Tokens → Taken A) → ℕ → Tokens → Taken (List A)
repeat look item zero ts = None
repeat look item (suc turns) ts =
    if look ts then and_then (item ts) (λ x rest. and_then (repeat look item turns rest) (λ xs rest. Some (x ∷ xs, rest)))
    else Some ([], ts)

-- The value at the front of the tokens, and the tokens behind it.
unfoldable pub take : {A : Type 0} → TextRule A → Tokens → Taken A
take (quote text) ts = behind (strip_lexemes (quoted text) ts)
take (leaf l) ts = l.take ts
take (both g h) ts = and_then (take g ts) (λ x ts. and_then (take h ts) (λ y ts. Some ((x, y), ts)))
take (made f g) ts = and_then (take g ts) (λ x ts. Some (f x, ts))
take (checked test g) ts = and_then (take g ts) (λ x ts. taken_if (test x) x ts)
take (either look g h) ts = if holds look ts then take g ts else take h ts
take (many look g) ts = repeat (holds look) (take g) (suc (length ts)) ts

-- Brackets, and items after a token, as plain programs.
use Rattle.std.specs.Prelude.{ℕ, List, [], suc, length, if◌then◌else◌, Option, Some, None, Ok}
use Rattle.educe_tokens.specs.Bracket.{Bracket}
use Rattle.educe_grammar.specs.declared.terminal.Terminal.{Terminal}
use Rattle.educe_grammar.specs.declared.terminal.Terminal.TheVariants.{Sign}
use Rattle.educe_grammar.specs.Terminals.{accepts}
use Rattle.educe_grammar.specs.Ahead.{Look, one, sees_any, opens, closes, begins_lone}
use Rattle.educe_grammar.specs.Combining.{at}
use Rattle.educe_grammar.specs.Steps.{expect, enter}
use Rattle.educe_grammar.specs.Running.{skip_if}
use Rattle.educe_grammar.specs.Noting.{Noted, Noter, and_then, plainly, items}

-- Parses a bracket pair and the content in it, with the budget before the pair.
abbrev pub nested : {A : Type 0} → Bracket → ℕ → Noter A → Noter A
nested b budget read s = and_then (plainly (expect (opens b)) s) (λ _ t. and_then (plainly (enter budget (length s.cursor)) t) (λ _ s.
    and_then (read s) (λ x s. and_then (plainly (expect (closes b)) s) (λ _ s. Ok (x, s)))))

-- Parses `<` (not half of `<=`), the content, and `>`.
abbrev pub angled : {A : Type 0} → ℕ → Noter A → Noter A
angled budget read s = and_then (plainly (λ ts. skip_if (begins_lone 60 61 ts) 1 ts) s) (λ _ t. and_then (plainly (enter budget (length s.cursor)) t) (λ _ s.
    and_then (read s) (λ x s. and_then (plainly (expect (accepts (Sign 62))) s) (λ _ s. Ok (x, s)))))

-- Parses comma-separated items up to a token that the lookahead accepts.
abbrev pub comma_items : {A : Type 0} → Look → Noter A → Noter (List A)
comma_items stop read s = items (accepts (Sign 44)) stop read (suc (length s.cursor)) [] s

-- Parses a token of the terminal and the content after it.
abbrev pub behind_token : {A : Type 0} → Terminal → Noter A → Noter A
behind_token {A} asked read s =
    let skipped : Noted (Unit {0}) = and_then (plainly (expect (accepts asked)) s) (λ _ s. Ok (tt, s)) in
    let found : Noted (Unit {0} × A) = and_then skipped (λ x s. and_then (read s) (λ y s. Ok ((x, y), s))) in
    and_then found (λ p s. Ok (p.1, s))

-- Parses a token of the terminal and the content after it, or nothing where no such token comes next.
abbrev pub optional_behind : {A : Type 0} → Terminal → Noter A → Noter (Option A)
optional_behind asked read s =
    if sees_any (at (one asked)) s.cursor then and_then (behind_token asked read s) (λ x s. Ok (Some x, s)) else Ok (None, s)

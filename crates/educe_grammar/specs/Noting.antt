-- Rules as plain programs that note each path that begins with `Self`.
use Rattle.std.specs.Prelude.{◌≡◌, ℕ, zero, suc, ◌-◌, Bool, if◌then◌else◌, IsTrue, List, [], ◌∷◌, ◌++◌, length, drop, refl, Option, Some, None, Result, Ok, Err}
use Rattle.educe_tokens.specs.declared.token.Token.{Token}
use Rattle.educe_tokens.specs.declared.written.Written.{Written}
use Rattle.educe_tokens.specs.Lexes.{lexemes}
use Rattle.educe_tokens.specs.Copied.{may_be_copied}
use Rattle.educe_grammar.specs.declared.operator.Operator.{Operator}
use Rattle.educe_grammar.specs.declared.parse_error.ParseError.{ParseError}
use Rattle.educe_grammar.specs.declared.parse_error.ParseError.TheVariants.{Syntax, TooDeep}
use Rattle.educe_grammar.specs.declared.parse_stream.ParseStream.{ParseStream}
use Rattle.educe_grammar.specs.declared.parse_stream.SelfPath.{SelfPath}
use Rattle.educe_grammar.specs.declared.terminal.Keyword.TheVariants.{SelfType}
use Rattle.educe_grammar.specs.declared.terminal.Terminal.TheVariants.{Sign, Word}
use Rattle.educe_grammar.specs.Terminals.{accepts}
use Rattle.educe_grammar.specs.Steps.{Outcome, Parser, expect, enter, since}
use Rattle.educe_grammar.specs.Ahead.{Look, sees_any, sees, opens, closes, documents, begins_pair, begins_lone}
use Rattle.educe_grammar.specs.Operators.{operator_at}
use Rattle.educe_grammar.specs.Reading.{chain_limit}
use Rattle.educe_grammar.specs.Rules.{Rule, token, documentation, empty, both, made, checked, either, prefer, operator, lone, binary, nest, angles, under, arrow, list, many, chain, path, sliced, written, part, Part, TreeOf}
use Rattle.educe_grammar.specs.Running.{skip_if, written_if}

-- The value with the rest of the stream and the noted paths, or a rejection.
abbrev pub Noted : Type 0 → Type 0
Noted A = Result (A × ParseStream) ParseError

-- A program that notes: it has such an outcome for each stream.
abbrev pub Noter : Type 0 → Type 0
Noter A = ParseStream → Noted A

-- Continue with the value and the stream that remains.
abbrev pub and_then : {A B : Type 0} → Noted A → (A → Noter B) → Noted B
and_then (Ok p) f = f p.0 p.1
and_then (Err e) f = Err e

-- An outcome behind a stream, where nothing more is noted.
abbrev pub onto : {A : Type 0} → ParseStream → Outcome A → Noted A
onto s (Ok p) = Ok (p.0, record { cursor = p.1; selves = s.selves })
onto s (Err e) = Err e

-- The program, with no path noted.
abbrev pub plainly : {A : Type 0} → Parser A → Noter A
plainly read s = onto s (read s.cursor)

-- The outcome without the noted paths.
abbrev pub forget : {A : Type 0} → Noted A → Outcome A
forget (Ok p) = Ok (p.0, p.1.cursor)
forget (Err e) = Err e

-- Without the noted paths, the first program parses what the second parses.
abbrev pub Forgets : {A : Type 0} → Noter A → Parser A → Type 0
Forgets note read = (s : ParseStream) → forget (note s) ≡ read s.cursor

-- Programs for the parts, for any budget.
abbrev pub Noters : Type 0
Noters = ℕ → (p : Part) → Noter (TreeOf p)

-- Parses separated items up to what the lookahead accepts; the number bounds the iterations.
unfoldable pub items : {A : Type 0} → (Token → Bool) → Look → Noter A → ℕ → List A → Noter (List A)
items separates stop item zero found s = Err (Syntax (length s.cursor))
items separates stop item (suc turns) found s =
    if sees_any stop s.cursor then Ok (found, s) else and_then (item s) (λ x s.
    if sees separates s.cursor then items separates stop item turns (found ++ x ∷ []) (record { cursor = drop 1 s.cursor; selves = s.selves }) else Ok (found ++ x ∷ [], s))

-- Parses items as long as the lookahead accepts the tokens; the number bounds the iterations.
unfoldable pub repeat : {A : Type 0} → Look → Noter A → ℕ → List A → Noter (List A)
repeat look item zero found s = Err (Syntax (length s.cursor))
repeat look item (suc turns) found s = if sees_any look s.cursor then and_then (item s) (λ x. repeat look item turns (found ++ x ∷ [])) else Ok (found, s)

-- Parses items as long as the lookahead accepts the tokens; more items than the number are rejected as too deep.
unfoldable pub links : {A : Type 0} → Look → Noter A → ℕ → List A → Noter (List A)
links look item zero found s = if sees_any look s.cursor then Err (TooDeep (length s.cursor)) else Ok (found, s)
links look item (suc left) found s = if sees_any look s.cursor then and_then (item s) (λ x. links look item left (found ++ x ∷ [])) else Ok (found, s)

-- The segments behind the first one, each behind `::`; the number bounds the turns.
unfoldable pub further : {A : Type 0} → Noter A → ℕ → List A → Noter (List A)
further item zero found s = if begins_pair 58 58 s.cursor then Err (Syntax (length (drop 2 s.cursor))) else Ok (found, s)
further item (suc turns) found s =
    if begins_pair 58 58 s.cursor then and_then (item (record { cursor = drop 2 s.cursor; selves = s.selves })) (λ x. further item turns (found ++ x ∷ [])) else Ok (found, s)

-- The stream behind a path; if the path begins with `Self`, it is noted: how many tokens are left at its beginning, behind its
-- first segment and behind it.
abbrev pub noted : ParseStream → ParseStream → ParseStream → ParseStream
noted start first behind = if sees (accepts (Word SelfType)) start.cursor
    then record { cursor = behind.cursor; selves = behind.selves ++ record { start = length start.cursor; first = length first.cursor; behind = length behind.cursor } ∷ [] }
    else behind

-- Items separated by `::`; the path is noted if it begins with `Self`.
abbrev pub segments : {A : Type 0} → Noter A → Noter (List A)
segments item start = and_then (item start) (λ x first. and_then (further item (length start.cursor) (x ∷ []) first) (λ found behind. Ok (found, noted start first behind)))

-- Take an operator, if there is one, and read the second operand.
abbrev pub binary_with : {A : Type 0} → Option (Operator × ℕ) → Noter A → Noter (Operator × A)
binary_with None operand s = Err (Syntax (length s.cursor))
binary_with (Some o) operand s = and_then (operand (record { cursor = drop o.1 s.cursor; selves = s.selves })) (λ x s. Ok ((o.0, x), s))

-- Parses the value with its tokens as they were written.
abbrev pub written_by : {A : Type 0} → Noter A → Noter (A × Written)
written_by read s = and_then (read s) (λ x. plainly (λ rest. written_if x (since s.cursor rest) rest (may_be_copied (lexemes (since s.cursor rest))) refl))

-- The tokens that the program parses may always be copied.
abbrev pub IsCopied : {A : Type 0} → Noter A → Type 0
IsCopied {A} read = (s t : ParseStream) (x : A) → read s ≡ Ok (x, t) → IsTrue (may_be_copied (lexemes (since s.cursor t.cursor)))

-- The program of a rule with this budget, given programs for the parts.
unfoldable pub run : Noters → ℕ → {A : Type 0} → Rule A → Noter A
run noters budget (token asked) s = plainly (expect (accepts asked)) s
run noters budget documentation s = plainly (expect documents) s
run noters budget (empty x) s = Ok (x, s)
run noters budget (both g h) s = and_then (run noters budget g s) (λ x s. and_then (run noters budget h s) (λ y s. Ok ((x, y), s)))
run noters budget (made f g) s = and_then (run noters budget g s) (λ x s. Ok (f x, s))
run noters budget (checked test g) s = and_then (run noters budget g s) (λ x s. if test x then Ok (x, s) else Err (Syntax (length s.cursor)))
run noters budget (either look g h) s = if sees_any look s.cursor then run noters budget g s else run noters budget h s
run noters budget (prefer asked g h) s = if sees (accepts asked) s.cursor then run noters budget g s else run noters budget h s
run noters budget (operator c d) s = plainly (λ ts. skip_if (begins_pair c d ts) 2 ts) s
run noters budget (lone c d g) s = and_then (plainly (λ ts. skip_if (begins_lone c d ts) 1 ts) s) (λ _. run noters budget g)
run noters budget (binary g) s = binary_with (operator_at s.cursor) (run noters budget g) s
run noters budget (nest b g) s = and_then (plainly (expect (opens b)) s) (λ _ t. and_then (plainly (enter budget (length s.cursor)) t) (λ _ s.
    and_then (run noters (budget - 1) g s) (λ x s. and_then (plainly (expect (closes b)) s) (λ _ s. Ok (x, s)))))
run noters budget (angles g) s = and_then (plainly (λ ts. skip_if (begins_lone 60 61 ts) 1 ts) s) (λ _ t. and_then (plainly (enter budget (length s.cursor)) t) (λ _ s.
    and_then (run noters (budget - 1) g s) (λ x s. and_then (plainly (expect (accepts (Sign 62))) s) (λ _ s. Ok (x, s)))))
run noters budget (under asked g) s = and_then (plainly (expect (accepts asked)) s) (λ _ t. and_then (plainly (enter budget (length s.cursor)) t) (λ _. run noters (budget - 1) g))
run noters budget (arrow g) s = and_then (plainly (λ ts. skip_if (begins_pair 45 62 ts) 2 ts) s) (λ _ t. and_then (plainly (enter budget (length s.cursor)) t) (λ _. run noters (budget - 1) g))
run noters budget (list separator stop g) s = items (accepts separator) stop (run noters budget g) (suc (length s.cursor)) [] s
run noters budget (many look g) s = repeat look (run noters budget g) (suc (length s.cursor)) [] s
run noters budget (chain look g) s = links look (run noters budget g) chain_limit [] s
run noters budget (path g) s = segments (run noters budget g) s
run noters budget (sliced g) s = and_then (run noters budget g s) (λ x t. Ok ((x, since s.cursor t.cursor), t))
run noters budget (written g) s = written_by (run noters budget g) s
run noters budget (part p) s = noters budget p s

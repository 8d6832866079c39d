-- Rules as plain programs, which define the parser's results.
use Rattle.std.specs.Prelude.{◌≡◌, ℕ, zero, suc, ◌-◌, Bool, true, false, if◌then◌else◌, IsTrue, List, [], ◌∷◌, ◌++◌, length, drop, refl, Option, Some, None, Result, Ok, Err}
use denote.Ref.{MutBor}
use Rattle.educe_tokens.specs.declared.token.Token.{Token}
use Rattle.educe_tokens.specs.declared.written.Written.{Written}
use Rattle.educe_tokens.specs.Lexes.{lexemes}
use Rattle.educe_tokens.specs.Copied.{may_be_copied}
use Rattle.educe_grammar.specs.declared.operator.Operator.{Operator}
use Rattle.educe_grammar.specs.declared.parse_error.ParseError.{ParseError}
use Rattle.educe_grammar.specs.declared.parse_error.ParseError.TheVariants.{Syntax, TooDeep}
use Rattle.educe_grammar.specs.declared.terminal.Terminal.TheVariants.{Sign}
use Rattle.educe_grammar.specs.Terminals.{accepts}
use Rattle.educe_grammar.specs.Steps.{Tokens, Outcome, Parser, and_then, expect, enter, since}
use Rattle.educe_grammar.specs.Ahead.{Look, sees_any, sees, opens, closes, documents, begins_pair, begins_lone}
use Rattle.educe_grammar.specs.Operators.{operator_at}
use Rattle.educe_grammar.specs.Reading.{chain_limit}
use Rattle.educe_grammar.specs.Rules.{Rule, token, documentation, empty, both, made, checked, either, prefer, operator, lone, binary, nest, angles, under, arrow, list, many, chain, path, sliced, written, part, Part, TreeOf}

-- Programs for the parts, for any budget.
abbrev pub Readers : Type 0
Readers = ℕ → (p : Part) → Parser (TreeOf p)

-- Take nothing, and have this value.
abbrev pub pure : {A : Type 0} → A → Parser A
pure x = λ ts. Ok (x, ts)

-- Take so many tokens if the test holds, otherwise reject.
abbrev pub skip_if : Bool → ℕ → Parser (Unit {0})
skip_if passes n = λ ts. if passes then Ok (tt, drop n ts) else Err (Syntax (length ts))

-- Parses separated items up to what the lookahead accepts; the number bounds the iterations.
unfoldable pub items : {A : Type 0} → (Token → Bool) → Look → Parser A → ℕ → List A → Parser (List A)
items separates stop item zero found ts = Err (Syntax (length ts))
items separates stop item (suc turns) found ts =
    if sees_any stop ts then Ok (found, ts) else and_then (item ts) (λ x ts.
    if sees separates ts then items separates stop item turns (found ++ x ∷ []) (drop 1 ts) else Ok (found ++ x ∷ [], ts))

-- Parses items as long as the lookahead accepts the tokens; the number bounds the iterations.
unfoldable pub repeat : {A : Type 0} → Look → Parser A → ℕ → List A → Parser (List A)
repeat look item zero found ts = Err (Syntax (length ts))
repeat look item (suc turns) found ts = if sees_any look ts then and_then (item ts) (λ x. repeat look item turns (found ++ x ∷ [])) else Ok (found, ts)

-- Parses items as long as the lookahead accepts the tokens; more items than the number are rejected as too deep.
unfoldable pub links : {A : Type 0} → Look → Parser A → ℕ → List A → Parser (List A)
links look item zero found ts = if sees_any look ts then Err (TooDeep (length ts)) else Ok (found, ts)
links look item (suc left) found ts = if sees_any look ts then and_then (item ts) (λ x. links look item left (found ++ x ∷ [])) else Ok (found, ts)

-- Parses items with `::` between them; the number bounds the iterations.
unfoldable pub segments : {A : Type 0} → Parser A → ℕ → List A → Parser (List A)
segments item zero found ts = Err (Syntax (length ts))
segments item (suc turns) found ts = and_then (item ts) (λ x ts.
    if begins_pair 58 58 ts then segments item turns (found ++ x ∷ []) (drop 2 ts) else Ok (found ++ x ∷ [], ts))

-- Take an operator, if there is one, and read the second operand.
abbrev pub binary_with : {A : Type 0} → Option (Operator × ℕ) → Parser A → Parser (Operator × A)
binary_with None operand ts = Err (Syntax (length ts))
binary_with (Some o) operand ts = and_then (operand (drop o.1 ts)) (λ x ts. Ok ((o.0, x), ts))

-- The last step of this, which rejects tokens that may not be copied.
abbrev pub written_if : {A : Type 0} → A → (tokens rest : Tokens) (b : Bool) → may_be_copied (lexemes tokens) ≡ b → Outcome (A × Written)
written_if x tokens rest true stands = Ok ((x, record { tokens = tokens; written = stands }), rest)
written_if x tokens rest false stands = Err (Syntax (length rest))

-- Parses the value with its tokens as they were written.
abbrev pub written_by : {A : Type 0} → Parser A → Parser (A × Written)
written_by read ts = and_then (read ts) (λ x rest. written_if x (since ts rest) rest (may_be_copied (lexemes (since ts rest))) refl)

-- The tokens that the program parses may always be copied.
abbrev pub IsCopied : {A : Type 0} → Parser A → Type 0
IsCopied {A} read = (ts rest : Tokens) (x : A) → read ts ≡ Ok (x, rest) → IsTrue (may_be_copied (lexemes (since ts rest)))

-- The program of a rule with this budget, given programs for the parts.
unfoldable pub run : Readers → ℕ → {A : Type 0} → Rule A → Parser A
run readers budget (token asked) ts = expect (accepts asked) ts
run readers budget documentation ts = expect documents ts
run readers budget (empty x) ts = Ok (x, ts)
run readers budget (both g h) ts = and_then (run readers budget g ts) (λ x ts. and_then (run readers budget h ts) (λ y ts. Ok ((x, y), ts)))
run readers budget (made f g) ts = and_then (run readers budget g ts) (λ x ts. Ok (f x, ts))
run readers budget (checked test g) ts = and_then (run readers budget g ts) (λ x ts. if test x then Ok (x, ts) else Err (Syntax (length ts)))
run readers budget (either look g h) ts = if sees_any look ts then run readers budget g ts else run readers budget h ts
run readers budget (prefer asked g h) ts = if sees (accepts asked) ts then run readers budget g ts else run readers budget h ts
run readers budget (operator c d) ts = skip_if (begins_pair c d ts) 2 ts
run readers budget (lone c d g) ts = and_then (skip_if (begins_lone c d ts) 1 ts) (λ _. run readers budget g)
run readers budget (binary g) ts = binary_with (operator_at ts) (run readers budget g) ts
run readers budget (nest b g) ts = and_then (expect (opens b) ts) (λ _ rest. and_then (enter budget (length ts) rest) (λ _ ts.
    and_then (run readers (budget - 1) g ts) (λ x ts. and_then (expect (closes b) ts) (λ _ ts. Ok (x, ts)))))
run readers budget (angles g) ts = and_then (skip_if (begins_lone 60 61 ts) 1 ts) (λ _ rest. and_then (enter budget (length ts) rest) (λ _ ts.
    and_then (run readers (budget - 1) g ts) (λ x ts. and_then (expect (accepts (Sign 62)) ts) (λ _ ts. Ok (x, ts)))))
run readers budget (under asked g) ts = and_then (expect (accepts asked) ts) (λ _ rest. and_then (enter budget (length ts) rest) (λ _. run readers (budget - 1) g))
run readers budget (arrow g) ts = and_then (skip_if (begins_pair 45 62 ts) 2 ts) (λ _ rest. and_then (enter budget (length ts) rest) (λ _. run readers (budget - 1) g))
run readers budget (list separator stop g) ts = items (accepts separator) stop (run readers budget g) (suc (length ts)) [] ts
run readers budget (many look g) ts = repeat look (run readers budget g) (suc (length ts)) [] ts
run readers budget (chain look g) ts = links look (run readers budget g) chain_limit [] ts
run readers budget (path g) ts = segments (run readers budget g) (suc (length ts)) [] ts
run readers budget (sliced g) ts = and_then (run readers budget g ts) (λ x rest. Ok ((x, since ts rest), rest))
run readers budget (written g) ts = written_by (run readers budget g) ts
run readers budget (part p) ts = readers budget p ts

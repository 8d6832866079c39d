-- The program of a rule never runs out of memory.
use Rattle.std.proofs.Common.{◌≡◌, ℕ, zero, suc, ◌-◌, Bool, true, false, List, [], ◌∷◌, ◌++◌, length, drop, refl, inl, inr, if◌then◌else◌, Option, Some, None, Ok, Err}
use Rattle.educe_tokens.specs.declared.token.Token.{Token}
use Rattle.educe_tokens.specs.Copied.{may_be_copied}
use Rattle.educe_tokens.specs.Lexes.{lexemes}
use Rattle.educe_grammar.specs.declared.operator.Operator.{Operator}
use Rattle.educe_grammar.specs.declared.parse_error.ParseError.TheVariants.{Memory, Syntax, TooDeep}
use Rattle.educe_grammar.specs.declared.terminal.Terminal.TheVariants.{Sign}
use Rattle.educe_grammar.specs.Terminals.{accepts}
use Rattle.educe_grammar.specs.Steps.{Tokens, Outcome, Parser, and_then, found_if, expect, enter, since}
use Rattle.educe_grammar.specs.Ahead.{Look, sees_any, sees, opens, closes, documents, begins_pair, begins_lone}
use Rattle.educe_grammar.specs.Operators.{operator_at}
use Rattle.educe_grammar.specs.Reading.{chain_limit}
use Rattle.educe_grammar.specs.Running.{Readers, run, items, repeat, links, segments, binary_with, skip_if, written_if}
use Rattle.educe_grammar.specs.Rules.{Rule, token, documentation, empty, both, made, checked, either, prefer, operator, lone, binary, nest, angles, under, arrow, list, many, chain, path, sliced, written, part, Part}
use Rattle.educe_grammar.specs.Reads.{readers_below, read, rule_of}
use Rattle.educe_grammar.proofs.Failing.{failed, ok_fails}
use Rattle.educe_grammar.proofs.Steps.{chose}

-- the outcome is not out of memory
abbrev NeedsNone : {A : Type 0} → Outcome A → Type 0
NeedsNone outcome = outcome ≡ Err Memory → ⊥

-- what came to an end
ok_needs_none : {A : Type 0} (x : A × Tokens) → NeedsNone {A = A} (Ok x)
ok_needs_none x h = ok_fails x Memory h

-- a rejection of the tokens
syntax_needs_none : {A : Type 0} (left : ℕ) → NeedsNone {A = A} (Err (Syntax left))
syntax_needs_none left h = cc

-- a rejection of the depth
deep_needs_none : {A : Type 0} (left : ℕ) → NeedsNone {A = A} (Err (TooDeep left))
deep_needs_none left h = cc

-- one step behind another
then_needs_none : {A B : Type 0} (p : Outcome A) (f : A → Parser B) → NeedsNone p → ((x : A) (ts : Tokens) → NeedsNone (f x ts)) → NeedsNone (and_then p f)
then_needs_none p f first second h = elim (failed p f Memory h) [ inl u ↦ first u | inr u ↦ second u.value u.left u.second ]

-- one of two
chose_needs_none : {A : Type 0} (b : Bool) (x y : Outcome A) → NeedsNone x → NeedsNone y → NeedsNone (if b then x else y)
chose_needs_none b x y first second h = elim (chose b x y (Err Memory) h) [ inl u ↦ first u.1 | inr u ↦ second u.1 ]

-- a token that passes a test or does not
found_needs_none : (test : Token → Bool) (t : Token) (ts : Tokens) (b : Bool) (is : test t ≡ b) → NeedsNone (found_if test t ts b is)
found_needs_none test t ts true is h = ok_needs_none _ h
found_needs_none test t ts false is h = syntax_needs_none _ h

-- a token that is asked for
expect_needs_none : (test : Token → Bool) (ts : Tokens) → NeedsNone (expect test ts)
unfolding expect
expect_needs_none test [] h = syntax_needs_none 0 h
expect_needs_none test (t ∷ ts) h = found_needs_none test t ts (test t) refl h

-- what is skipped
skip_needs_none : (b : Bool) (n : ℕ) (ts : Tokens) → NeedsNone (skip_if b n ts)
skip_needs_none true n ts h = ok_needs_none _ h
skip_needs_none false n ts h = syntax_needs_none _ h

-- what nests
enter_needs_none : (budget left : ℕ) (ts : Tokens) → NeedsNone (enter budget left ts)
unfolding enter
enter_needs_none zero left ts h = deep_needs_none left h
enter_needs_none (suc budget) left ts h = ok_needs_none _ h

-- what is kept as it was written
written_needs_none : {A : Type 0} (x : A) (tokens rest : Tokens) (b : Bool) (is : may_be_copied (lexemes tokens) ≡ b) → NeedsNone (written_if x tokens rest b is)
written_needs_none x tokens rest true is h = ok_needs_none _ h
written_needs_none x tokens rest false is h = syntax_needs_none _ h

-- ---- loops

module _ {A : Type 0} (p : Parser A) (none : (ts : Tokens) → NeedsNone (p ts)) where
  items_need_none : (separates : Token → Bool) (stop : Look) (n : ℕ) (found : List A) (ts : Tokens) → NeedsNone (items separates stop p n found ts)
  unfolding items
  items_need_none separates stop zero found ts h = syntax_needs_none _ h
  items_need_none separates stop (suc n) found ts h =
      chose_needs_none (sees_any stop ts) _ _ (ok_needs_none _) (then_needs_none (p ts) _ (none ts) (λ x rest.
      chose_needs_none (sees separates rest) _ _ (items_need_none separates stop n (found ++ x ∷ []) (drop 1 rest)) (ok_needs_none _))) h

  repeat_needs_none : (look : Look) (n : ℕ) (found : List A) (ts : Tokens) → NeedsNone (repeat look p n found ts)
  unfolding repeat
  repeat_needs_none look zero found ts h = syntax_needs_none _ h
  repeat_needs_none look (suc n) found ts h =
      chose_needs_none (sees_any look ts) _ _ (then_needs_none (p ts) _ (none ts) (λ x rest. repeat_needs_none look n (found ++ x ∷ []) rest)) (ok_needs_none _) h

  links_need_none : (look : Look) (n : ℕ) (found : List A) (ts : Tokens) → NeedsNone (links look p n found ts)
  unfolding links
  links_need_none look zero found ts h = chose_needs_none (sees_any look ts) _ _ (deep_needs_none _) (ok_needs_none _) h
  links_need_none look (suc n) found ts h =
      chose_needs_none (sees_any look ts) _ _ (then_needs_none (p ts) _ (none ts) (λ x rest. links_need_none look n (found ++ x ∷ []) rest)) (ok_needs_none _) h

  segments_need_none : (n : ℕ) (found : List A) (ts : Tokens) → NeedsNone (segments p n found ts)
  unfolding segments
  segments_need_none zero found ts h = syntax_needs_none _ h
  segments_need_none (suc n) found ts h =
      then_needs_none (p ts) _ (none ts) (λ x rest.
      chose_needs_none (begins_pair 58 58 rest) _ _ (segments_need_none n (found ++ x ∷ []) (drop 2 rest)) (ok_needs_none _)) h

  binary_needs_none : (o : Option (Operator × ℕ)) (ts : Tokens) → NeedsNone (binary_with o p ts)
  binary_needs_none None ts h = syntax_needs_none _ h
  binary_needs_none (Some o) ts h = then_needs_none (p (drop o.1 ts)) _ (none (drop o.1 ts)) (λ x rest. ok_needs_none _) h

-- ---- rules

module _ (readers : Readers) (none : (budget : ℕ) (p : Part) (ts : Tokens) → NeedsNone (readers budget p ts)) where
  -- up to the token that closes
  closed_needs_none : {A : Type 0} (test : Token → Bool) (x : A) (ts : Tokens) → NeedsNone (and_then (expect test ts) (λ _ ts. Ok (x, ts)))
  closed_needs_none test x ts h = then_needs_none (expect test ts) _ (expect_needs_none test ts) (λ _ rest. ok_needs_none _) h

  rule_needs_none : (budget : ℕ) {A : Type 0} (g : Rule A) (ts : Tokens) → NeedsNone (run readers budget g ts)
  unfolding run
  rule_needs_none budget (token asked) ts h = expect_needs_none (accepts asked) ts h
  rule_needs_none budget documentation ts h = expect_needs_none documents ts h
  rule_needs_none budget (empty x) ts h = ok_needs_none _ h
  rule_needs_none budget (both g k) ts h =
      then_needs_none (run readers budget g ts) _ (rule_needs_none budget g ts) (λ x rest.
      then_needs_none (run readers budget k rest) _ (rule_needs_none budget k rest) (λ y more. ok_needs_none _)) h
  rule_needs_none budget (made f g) ts h = then_needs_none (run readers budget g ts) _ (rule_needs_none budget g ts) (λ x rest. ok_needs_none _) h
  rule_needs_none budget (checked test g) ts h =
      then_needs_none (run readers budget g ts) _ (rule_needs_none budget g ts) (λ x rest. chose_needs_none (test x) _ _ (ok_needs_none _) (syntax_needs_none _)) h
  rule_needs_none budget (either look g k) ts h = chose_needs_none (sees_any look ts) _ _ (rule_needs_none budget g ts) (rule_needs_none budget k ts) h
  rule_needs_none budget (prefer asked g k) ts h = chose_needs_none (sees (accepts asked) ts) _ _ (rule_needs_none budget g ts) (rule_needs_none budget k ts) h
  rule_needs_none budget (operator c d) ts h = skip_needs_none (begins_pair c d ts) 2 ts h
  rule_needs_none budget (lone c d g) ts h = then_needs_none (skip_if (begins_lone c d ts) 1 ts) _ (skip_needs_none (begins_lone c d ts) 1 ts) (λ _ rest. rule_needs_none budget g rest) h
  rule_needs_none budget (binary g) ts h = binary_needs_none (run readers budget g) (rule_needs_none budget g) (operator_at ts) ts h
  rule_needs_none budget (nest b g) ts h =
      then_needs_none (expect (opens b) ts) _ (expect_needs_none (opens b) ts) (λ _ rest.
      then_needs_none (enter budget (length ts) rest) _ (enter_needs_none budget (length ts) rest) (λ _ inside.
      then_needs_none (run readers (budget - 1) g inside) _ (rule_needs_none (budget - 1) g inside) (λ x more. closed_needs_none (closes b) x more))) h
  rule_needs_none budget (angles g) ts h =
      then_needs_none (skip_if (begins_lone 60 61 ts) 1 ts) _ (skip_needs_none (begins_lone 60 61 ts) 1 ts) (λ _ rest.
      then_needs_none (enter budget (length ts) rest) _ (enter_needs_none budget (length ts) rest) (λ _ inside.
      then_needs_none (run readers (budget - 1) g inside) _ (rule_needs_none (budget - 1) g inside) (λ x more. closed_needs_none (accepts (Sign 62)) x more))) h
  rule_needs_none budget (under asked g) ts h =
      then_needs_none (expect (accepts asked) ts) _ (expect_needs_none (accepts asked) ts) (λ _ rest.
      then_needs_none (enter budget (length ts) rest) _ (enter_needs_none budget (length ts) rest) (λ _ inside. rule_needs_none (budget - 1) g inside)) h
  rule_needs_none budget (arrow g) ts h =
      then_needs_none (skip_if (begins_pair 45 62 ts) 2 ts) _ (skip_needs_none (begins_pair 45 62 ts) 2 ts) (λ _ rest.
      then_needs_none (enter budget (length ts) rest) _ (enter_needs_none budget (length ts) rest) (λ _ inside. rule_needs_none (budget - 1) g inside)) h
  rule_needs_none budget (list separator stop g) ts h = items_need_none (run readers budget g) (rule_needs_none budget g) (accepts separator) stop (suc (length ts)) [] ts h
  rule_needs_none budget (many look g) ts h = repeat_needs_none (run readers budget g) (rule_needs_none budget g) look (suc (length ts)) [] ts h
  rule_needs_none budget (chain look g) ts h = links_need_none (run readers budget g) (rule_needs_none budget g) look chain_limit [] ts h
  rule_needs_none budget (path g) ts h = segments_need_none (run readers budget g) (rule_needs_none budget g) (suc (length ts)) [] ts h
  rule_needs_none budget (sliced g) ts h = then_needs_none (run readers budget g ts) _ (rule_needs_none budget g ts) (λ x rest. ok_needs_none _) h
  rule_needs_none budget (written g) ts h =
      then_needs_none (run readers budget g ts) _ (rule_needs_none budget g ts) (λ x rest.
      written_needs_none x (since ts rest) rest (may_be_copied (lexemes (since ts rest))) refl) h
  rule_needs_none budget (part p) ts h = none budget p ts h

-- the parts below a bound
parts_need_none : (bound budget : ℕ) (p : Part) (ts : Tokens) → NeedsNone (readers_below bound budget p ts)
unfolding readers_below
parts_need_none zero budget p ts h = syntax_needs_none _ h
parts_need_none (suc bound) budget p ts h = rule_needs_none (readers_below bound) (parts_need_none bound) budget (rule_of p) ts h

-- the program of a rule
pub read_needs_none : (budget : ℕ) {A : Type 0} (g : Rule A) (ts : Tokens) → read budget g ts ≡ Err Memory → ⊥
read_needs_none budget g ts h = rule_needs_none _ (λ inner p rest. parts_need_none (suc inner) inner p rest) budget g ts h

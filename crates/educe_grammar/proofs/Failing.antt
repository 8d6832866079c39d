-- What a step that failed did: where it fails since it nests too deep.
use Rattle.std.proofs.Common.{◌≡◌, ℕ, zero, suc, Bool, true, false, [], ◌∷◌, length, refl, ap, ◌⊎◌, inl, inr, Ok, Err}
use Rattle.educe_tokens.specs.declared.token.Token.{Token}
use Rattle.educe_tokens.specs.declared.written.Written.{Written}
use Rattle.educe_tokens.specs.Copied.{may_be_copied}
use Rattle.educe_tokens.specs.Lexes.{lexemes}
use Rattle.educe_grammar.specs.declared.parse_error.ParseError.{ParseError}
use Rattle.educe_grammar.specs.declared.parse_error.ParseError.TheVariants.{Syntax, TooDeep}
use Rattle.educe_grammar.specs.Steps.{Tokens, Outcome, Parser, Found, and_then, found_if, expect, enter}
use Rattle.educe_grammar.specs.Running.{skip_if, written_if}

-- a step that failed behind its first part
pub record Later {A B : Type 0} (p : Outcome A) (f : A → Parser B) (e : ParseError) : Type 0 where
  pub value : A
  pub left : Tokens
  pub first : p ≡ Ok (value, left)
  pub second : f value left ≡ Err e

-- one of two steps failed
pub failed : {A B : Type 0} (p : Outcome A) (f : A → Parser B) (e : ParseError) → and_then p f ≡ Err e → (p ≡ Err e) ⊎ Later p f e
failed (Ok x) f e h = inr (record { value = x.0; left = x.1; first = refl; second = h })
failed (Err x) f e h = inl (let k : x ≡ e = cc in ap Err k)

-- what came to an end did not fail
pub ok_fails : {A : Type 0} (x : A × Tokens) (e : ParseError) → ◌≡◌ {A = Outcome A} (Ok x) (Err e) → ⊥
ok_fails x e h = cc

-- a rejection of the tokens is no rejection of the depth
pub syntax_fails : {A : Type 0} (m left : ℕ) → ◌≡◌ {A = Outcome A} (Err (Syntax m)) (Err (TooDeep left)) → ⊥
syntax_fails m left h = cc

-- the place of a rejection of the depth
pub place_same : {A : Type 0} (m left : ℕ) → ◌≡◌ {A = Outcome A} (Err (TooDeep m)) (Err (TooDeep left)) → m ≡ left
place_same m left h = cc

-- what is made of what was read fails only where the reading does
pub made_fails : {A B : Type 0} (p : Outcome A) (make : A → Tokens → B) (left : ℕ) → and_then p (λ x rest. Ok (make x rest, rest)) ≡ Err (TooDeep left) → p ≡ Err (TooDeep left)
made_fails (Ok x) make left h = absurd (ok_fails _ (TooDeep left) h)
made_fails (Err x) make left h = let k : x ≡ TooDeep left = cc in ap Err k

-- a token that is found or rejected is not too deep
found_fails : (test : Token → Bool) (t : Token) (ts : Tokens) (b : Bool) (is : test t ≡ b) (left : ℕ) → found_if test t ts b is ≡ Err (TooDeep left) → ⊥
found_fails test t ts true is left h = ok_fails _ (TooDeep left) h
found_fails test t ts false is left h = syntax_fails {A = Found test} (length (t ∷ ts)) left h

-- a token that is asked for is never too deep
pub expect_fails : (test : Token → Bool) (ts : Tokens) (left : ℕ) → expect test ts ≡ Err (TooDeep left) → ⊥
unfolding expect
expect_fails test [] left h = syntax_fails {A = Found test} 0 left h
expect_fails test (t ∷ ts) left h = found_fails test t ts (test t) refl left h

-- what is read up to a token that ends it fails where what is read does
pub ended_fails : {A : Type 0} (p : Outcome A) (test : Token → Bool) (left : ℕ) → and_then p (λ x ts. and_then (expect test ts) (λ _ ts. Ok (x, ts))) ≡ Err (TooDeep left) → p ≡ Err (TooDeep left)
ended_fails (Ok x) test left h = absurd (expect_fails test x.1 left (made_fails (expect test x.1) (λ _ _. x.0) left h))
ended_fails (Err x) test left h = let k : x ≡ TooDeep left = cc in ap Err k

-- neither is one that is skipped
pub skip_fails : (b : Bool) (n : ℕ) (ts : Tokens) (left : ℕ) → skip_if b n ts ≡ Err (TooDeep left) → ⊥
skip_fails true n ts left h = ok_fails _ (TooDeep left) h
skip_fails false n ts left h = syntax_fails {A = Unit {0}} (length ts) left h

-- what is kept as it was written is not rejected as too deep
pub written_fails : {A : Type 0} (x : A) (tokens rest : Tokens) (b : Bool) (is : may_be_copied (lexemes tokens) ≡ b) (left : ℕ) → written_if x tokens rest b is ≡ Err (TooDeep left) → ⊥
written_fails x tokens rest true is left h = ok_fails _ (TooDeep left) h
written_fails {A} x tokens rest false is left h = syntax_fails {A = A × Written} (length rest) left h

-- what nests is too deep where there is no budget, at the place that is given
pub enter_fails : (budget place left : ℕ) (ts : Tokens) → enter budget place ts ≡ Err (TooDeep left) → (budget ≡ 0) × (place ≡ left)
unfolding enter
enter_fails zero place left ts h = (refl, place_same {A = Unit {0}} place left h)
enter_fails (suc budget) place left ts h = absurd (ok_fails _ (TooDeep left) h)

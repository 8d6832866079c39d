-- What a step that came to an end did.
use Rattle.std.proofs.Common.{◌≡◌, ℕ, zero, suc, ◌-◌, ◌<◌, Bool, true, false, [], ◌∷◌, ◌++◌, length, drop, refl, ap, sym, ◌∙◌, ◌⊎◌, inl, inr, arith, cond, Result, Ok, Err, IsTrue, length-append}
use mathlib.Core.HLevel.{is_prop→PathP}
use mathlib.Core.Bool.{Bool-set}
use Rattle.std.proofs.Math.Seq.{take-append_seam}
use Rattle.educe_tokens.specs.declared.token.Token.{Token}
use Rattle.educe_tokens.specs.declared.written.Written.{Written}
use Rattle.educe_tokens.specs.Copied.{may_be_copied}
use Rattle.educe_tokens.specs.Lexes.{lexemes}
use Rattle.educe_grammar.specs.declared.parse_error.ParseError.{ParseError}
use Rattle.educe_grammar.specs.Steps.{Tokens, Outcome, Parser, and_then, Found, found_if, expect, enter, since}
use Rattle.educe_grammar.specs.Running.{skip_if, written_if}

-- that a test holds is one fact
pub IsTrue-prop : (b : Bool) → IsProp (IsTrue b)
IsTrue-prop b = hlevel (Bool-set)

-- lists of the same tokens that were written are equal
pub Written-path : (a b : Written) → a.tokens ≡ b.tokens → a ≡ b
Written-path a b tokens = λ i. record {
  tokens = tokens i;
  written = is_prop→PathP (λ j. IsTrue (may_be_copied (lexemes (tokens j)))) (λ j. IsTrue-prop _) a.written b.written i;
}

-- equal outcomes have equal contents
pub ok_same : {A : Type 0} {x y : A} → ◌≡◌ {A = Result A ParseError} (Ok x) (Ok y) → x ≡ y
ok_same h = cc

-- equal outcomes have equal values and equal rests
pub ok_pair : {A : Type 0} {x y : A} {a b : Tokens} → ◌≡◌ {A = Outcome A} (Ok (x, a)) (Ok (y, b)) → (x ≡ y) × (a ≡ b)
ok_pair h = let e = ok_same h in (ap (λ p. p.0) e, ap (λ p. p.1) e)

-- a step that came to an end: what its first part gave
pub record Went {A B : Type 0} (p : Outcome A) (f : A → Parser B) (y : B) (rest : Tokens) : Type 0 where
  pub value : A
  pub left : Tokens
  pub first : p ≡ Ok (value, left)
  pub second : f value left ≡ Ok (y, rest)

-- two steps that came to an end
pub went : {A B : Type 0} (p : Outcome A) (f : A → Parser B) (y : B) (rest : Tokens) → and_then p f ≡ Ok (y, rest) → Went p f y rest
went (Ok x) f y rest h = record { value = x.0; left = x.1; first = refl; second = h }
went (Err e) f y rest h = absurd (cc)

-- what is read up to a token that ends it
abbrev pub ended : {A : Type 0} → (Token → Bool) → Parser A → Parser A
ended test p = λ ts. and_then (p ts) (λ x ts. and_then (expect test ts) (λ _ ts. Ok (x, ts)))

-- which branch was taken
pub chose : {A : Type 0} (b : Bool) (x y : Outcome A) (z : Outcome A) → cond b x y ≡ z → ((b ≡ true) × (x ≡ z)) ⊎ ((b ≡ false) × (y ≡ z))
chose true x y z h = inl (refl, h)
chose false x y z h = inr (refl, h)

-- a test holds or fails
pub decided : (b : Bool) → (b ≡ true) ⊎ (b ≡ false)
decided true = inl refl
decided false = inr refl

-- a token that was found stood first
found_if_went : (test : Token → Bool) (t : Token) (ts rest : Tokens) (f : Found test) (b : Bool) (is : test t ≡ b)
    → found_if test t ts b is ≡ Ok (f, rest) → t ∷ ts ≡ f.token ∷ rest
found_if_went test t ts rest f true is h = let e = ok_pair h in ap (λ (g : Found test). g.token ∷ ts) e.0 ∙ ap (λ us. f.token ∷ us) e.1
found_if_went test t ts rest f false is h = absurd (cc)

-- a token that was taken stood first
pub expected : (test : Token → Bool) (ts rest : Tokens) (f : Found test) → expect test ts ≡ Ok (f, rest) → ts ≡ f.token ∷ rest
unfolding expect
expected test [] rest f h = absurd (cc)
expected test (t ∷ ts) rest f h = found_if_went test t ts rest f (test t) refl h

-- what nests has a budget
pub entered : (budget left : ℕ) (ts rest : Tokens) (u : Unit {0}) → enter budget left ts ≡ Ok (u, rest) → (0 < budget) × (ts ≡ rest)
unfolding enter
entered zero left ts rest u h = absurd (cc)
entered (suc budget) left ts rest u h = (omega arith, (ok_pair h).1)

-- tokens that were skipped passed the test
pub skipped : (b : Bool) (n : ℕ) (ts rest : Tokens) (u : Unit {0}) → skip_if b n ts ≡ Ok (u, rest) → (b ≡ true) × (drop n ts ≡ rest)
skipped true n ts rest u h = (refl, (ok_pair h).1)
skipped false n ts rest u h = absurd (cc)

-- what was read is the front
pub since_all : (front rest : Tokens) → since (front ++ rest) rest ≡ front
unfolding since
since_all front rest =
    let e : length (front ++ rest) - length rest ≡ length front = omega (arith, length-append front rest) in
    rw e (take-append_seam front rest)

-- what was written may be copied, and is what was read
pub written_went : {A : Type 0} (x : A) (tokens rest : Tokens) (b : Bool) (is : may_be_copied (lexemes tokens) ≡ b) (y : A × Written) (left : Tokens)
    → written_if x tokens rest b is ≡ Ok (y, left) → (x ≡ y.0) × (y.1.tokens ≡ tokens) × (rest ≡ left)
written_went x tokens rest true is y left h = let e = ok_pair h in (ap (λ p. p.0) e.0, sym (ap (λ p. p.1.tokens) e.0), e.1)
written_went x tokens rest false is y left h = absurd (cc)

-- What is taken where a token was seen.
use Rattle.std.proofs.Common.{◌≡◌, ◌≤◌, Bool, true, false, [], ◌∷◌, length, drop, get_or, ap, sym, ◌∙◌, subst, refl, arith, ℕ, Result, Ok, Err, IsTrue, inr}
use mathlib.Core.Bool.{Bool-set}
use Rattle.educe_tokens.specs.declared.token.Token.{Token}
use Rattle.educe_grammar.specs.declared.parse_error.ParseError.{ParseError}
use Rattle.educe_grammar.specs.Ahead.{sees}
use Rattle.educe_grammar.specs.Steps.{Tokens, Outcome, found_if, expect, enter, Eats, Passes, Opens}

IsTrue-prop : (b : Bool) (p q : IsTrue b) → p ≡ q
IsTrue-prop b = hlevel (Bool-set)

found_if_passes : (test : Token → Bool) (t : Token) (ts : Tokens) (passes : IsTrue (test t)) (b : Bool) (is : test t ≡ b) → b ≡ true
    → found_if test t ts b is ≡ Ok (record { token = t; passes = passes }, ts)
found_if_passes test t ts passes true is e = ap (λ (p : IsTrue (test t)). Ok (record { token = t; passes = p }, ts)) (IsTrue-prop (test t) is passes)
found_if_passes test t ts passes false is e = cc

-- a token that passes is taken
expect_first : (test : Token → Bool) (t : Token) (ts : Tokens) (passes : IsTrue (test t)) → expect test (t ∷ ts) ≡ Ok (record { token = t; passes = passes }, ts)
unfolding expect
expect_first test t ts passes = found_if_passes test t ts passes (test t) refl passes

abbrev Taken : (Token → Bool) → Tokens → Token → Tokens → Type 0
Taken test ts t rest = (passes : IsTrue (test t)) × (expect test ts ≡ Ok (record { token = t; passes = passes }, rest))

first_taken : (test : Token → Bool) (ts rest : Tokens) (t : Token) → 1 ≤ length ts → t ≡ get_or ts 0 t → rest ≡ drop 1 ts → sees test ts ≡ true
    → Taken test ts t rest
unfolding sees
first_taken test [] rest t h is left seen = absurd (omega arith)
first_taken test (u ∷ us) rest t h is left seen =
    subst (λ r. Taken test (u ∷ us) t r) (sym left) (subst (λ v. Taken test (u ∷ us) v us) (sym is) (seen, expect_first test u us seen))

-- the first token is taken where it was seen
pub expect_seen : (test : Token → Bool) (ts all rest : Tokens) (t : Token) → ts ≡ all → 1 ≤ length ts → t ≡ get_or ts 0 t → rest ≡ drop 1 all
    → sees test all ≡ true → Taken test all t rest
expect_seen test ts all rest t same h is left seen =
    subst (λ us. Taken test us t rest) same (first_taken test ts rest t h is (rw same left) (rw same seen))

-- the first token is eaten where it was seen
pub eats_seen : (test : Token → Bool) (ts rest : Tokens) (b : Bool) → b ≡ sees test ts → b ≡ true → rest ≡ drop 1 ts → Eats (expect test ts) b ts rest
unfolding sees
eats_seen test [] rest b same seen left = absurd (cc)
eats_seen test (u ∷ us) rest b same seen left =
    let passes : test u ≡ true = sym same ∙ seen in
    subst (λ c. Eats (expect test (u ∷ us)) c (u ∷ us) rest) (sym seen) (record { token = u; passes = passes }, expect_first test u us passes ∙ (λ i. Ok (record { token = u; passes = passes }, sym left i)))

-- where an opener was taken, the budget decides
pub opener_taken : {A : Type 0} (opener : Outcome A) (budget left : ℕ) (old mid : Tokens) (x : A) (r : Result ℕ ParseError) → opener ≡ Ok (x, mid) → left ≡ length old
    → Passes (enter budget left mid) r mid → Opens opener budget old r mid
opener_taken opener budget left old mid x (Ok below) took same passes = (x, took, rw (← same) passes)
opener_taken opener budget left old mid x (Err e) took same passes = inr (x, mid, took, rw (← same) passes)

-- Places at which more openers count than a budget.
use Rattle.std.proofs.Common.{◌≡◌, ℕ, suc, ◌+◌, ◌<◌, ◌≤◌, Bool, true, ◌&&◌, ◌==◌, List, [], ◌∷◌, ◌++◌, length, refl, ap, sym, subst, ◌∙◌, arith, cond, append_assoc}
use Rattle.educe_tokens.specs.TokenKind.{TokenKind}
use Rattle.educe_tokens.specs.TokenKind.TheVariants as kind
use Rattle.educe_tokens.specs.declared.token.Token.{Token}
use Rattle.educe_grammar.specs.Steps.{Tokens}
use Rattle.educe_grammar.specs.Depth.{pending, is_opener, closed, counted}
use Rattle.educe_grammar.proofs.Beginnings.{opening}
use Rattle.educe_grammar.proofs.Balanced.{IsEven}

-- More openers than the budget count at the place where so many tokens are left, that place's token included.
pub record DeepAt (budget left : ℕ) (ts : Tokens) : Type 0 where
  pub front : Tokens
  pub rest : Tokens
  pub whole : ts ≡ front ++ rest
  pub place : left ≡ length rest + 1
  pub open_still : closed front ≡ 0
  pub many : budget < counted front

-- with more tokens on the left no fewer count
counted_grows : (front ts : Tokens) → counted ts ≤ counted (front ++ ts)
unfolding counted
counted_grows [] ts = omega arith
counted_grows (t ∷ front) ts = omega (arith, counted_grows front ts)

-- behind whole bracket pairs the same count
pub deep_after : (budget left : ℕ) (front ts : Tokens) → IsEven front → DeepAt budget left ts → DeepAt budget left (front ++ ts)
deep_after budget left front ts even deep = record {
  front = front ++ deep.front;
  rest = deep.rest;
  whole = ap (λ us. front ++ us) deep.whole ∙ sym (append_assoc front deep.front deep.rest);
  place = deep.place;
  open_still = even deep.front ∙ deep.open_still;
  many = omega (arith, counted_grows front deep.front, deep.many);
}

-- more count than a smaller budget
pub deep_less : (budget more left : ℕ) (ts : Tokens) → budget ≤ more → DeepAt more left ts → DeepAt budget left ts
deep_less budget more left ts less deep = record {
  front = deep.front;
  rest = deep.rest;
  whole = deep.whole;
  place = deep.place;
  open_still = deep.open_still;
  many = omega (arith, deep.many);
}

-- an opener closes no bracket
opener_closes_none : (k : TokenKind) (text : List ℕ) → is_opener k text ≡ true → pending k 0 ≡ 0
opener_closes_none (kind.Start b) text h = omega arith
opener_closes_none (kind.Punct c joint) text h = refl
opener_closes_none kind.Ident text h = refl
opener_closes_none (kind.Stop b) text h = absurd (cc)
opener_closes_none kind.Lifetime text h = absurd (cc)
opener_closes_none (kind.Literal l) text h = absurd (cc)
opener_closes_none kind.Doc text h = absurd (cc)

-- an opener adds one where no bracket is closed
opener_counts : (b : Bool) (n : ℕ) → b ≡ true → n ≡ 0 → ◌≡◌ {A = ℕ} (cond (b && (n == 0)) 1 0) 1
opener_counts b n opens none = rw (opens, none) refl

-- an opener in front counts where no bracket pair around it is closed
counted-opener : (t : Token) (ts : Tokens) → opening t ≡ true → closed (t ∷ ts) ≡ 0 → counted (t ∷ ts) ≡ counted ts + 1
unfolding counted
counted-opener t ts opens still = ap (λ n. counted ts + n) (opener_counts (is_opener t.kind t.spelling) (closed (t ∷ ts)) opens still)

-- in front of it none is closed either
closed-opener : (t : Token) (ts : Tokens) → opening t ≡ true → closed ts ≡ 0 → closed (t ∷ ts) ≡ 0
unfolding closed
closed-opener t ts opens still = ap (pending t.kind) still ∙ opener_closes_none t.kind t.spelling opens

-- behind an opener one more counts
pub deep_open : (budget left : ℕ) (t : Token) (ts : Tokens) → opening t ≡ true → DeepAt budget left ts → DeepAt (suc budget) left (t ∷ ts)
deep_open budget left t ts opens deep =
    let still = closed-opener t deep.front opens deep.open_still in
    record {
      front = t ∷ deep.front;
      rest = deep.rest;
      whole = ap (λ us. t ∷ us) deep.whole;
      place = deep.place;
      open_still = still;
      many = omega (arith, deep.many, counted-opener t deep.front opens still);
    }

-- behind whole bracket pairs that begin with an opener one more counts
pub deep_link : (budget left : ℕ) (t : Token) (more ts : Tokens) → IsEven (t ∷ more) → opening t ≡ true → DeepAt budget left ts → DeepAt (suc budget) left (t ∷ more ++ ts)
deep_link budget left t more ts even opens deep =
    let still : closed (t ∷ more ++ deep.front) ≡ 0 = even deep.front ∙ deep.open_still in
    record {
      front = t ∷ more ++ deep.front;
      rest = deep.rest;
      whole = ap (λ us. t ∷ more ++ us) deep.whole ∙ ap (λ us. t ∷ us) (sym (append_assoc more deep.front deep.rest));
      place = deep.place;
      open_still = still;
      many = omega (arith, deep.many, counted_grows more deep.front, counted-opener t (more ++ deep.front) opens still);
    }

-- at an opener it counts itself
pub deep_here : (t : Token) (ts : Tokens) → opening t ≡ true → DeepAt 0 (length (t ∷ ts)) (t ∷ ts)
unfolding closed counted
deep_here t ts opens =
    let still = closed-opener t [] opens refl in
    record { front = t ∷ []; rest = ts; whole = refl; place = omega arith; open_still = still; many = omega (arith, counted-opener t [] opens still) }

-- The token at which more openers than the budget count, with those before it and those behind it.
pub record DeepPlace (budget left : ℕ) (ts : Tokens) : Type 0 where
  pub front : Tokens
  pub place : Token
  pub rest : Tokens
  pub whole : ts ≡ front ++ place ∷ rest
  pub left_is : left ≡ length rest + 1
  pub many : budget < counted (front ++ place ∷ [])

-- a list that is not empty has a last token
last_of : (t : Token) (ts : Tokens) → (front : Tokens) × (last : Token) × (t ∷ ts ≡ front ++ last ∷ [])
last_of t [] = ([], t, refl)
last_of t (u ∷ ts) = let l = last_of u ts in (t ∷ l.0, l.1, ap (λ us. t ∷ us) l.2)

-- where some count there is one
some_counts : (budget : ℕ) (ts : Tokens) → budget < counted ts → (front : Tokens) × (last : Token) × (ts ≡ front ++ last ∷ [])
unfolding counted
some_counts budget [] many = absurd (omega arith)
some_counts budget (t ∷ ts) many = last_of t ts

-- such a place is a token's
pub deep_place : (budget left : ℕ) (ts : Tokens) → DeepAt budget left ts → DeepPlace budget left ts
deep_place budget left ts deep =
    let l = some_counts budget deep.front deep.many in record {
      front = l.0;
      place = l.1;
      rest = deep.rest;
      whole = deep.whole ∙ ap (λ us. us ++ deep.rest) l.2 ∙ append_assoc l.0 (l.1 ∷ []) deep.rest;
      left_is = deep.place;
      many = subst (λ us. budget < counted us) l.2 deep.many;
    }

-- The brackets that are open behind tokens.
use Rattle.std.proofs.Common.{◌≡◌, ℕ, ◌≤◌, Bool, true, false, cond, Option, Some, None, List, [], ◌∷◌, ◌++◌, length, refl, sym, ap, ◌∙◌, subst, arith}
use Rattle.std.specs.Prelude.{nat_le}
use Rattle.std.proofs.lemmas.Bool.{and_parts, and_from}
use Rattle.std.proofs.lemmas.Bool.Decides.{nat_tests}
use Rattle.educe_tokens_pieces.specs.declared.kind.Bracket.{Bracket}
use Rattle.educe_tokens_pieces.specs.declared.kind.TokenKind.{TokenKind}
use Rattle.educe_tokens_pieces.specs.declared.kind.TokenKind.TheVariants.{Ident, Lifetime, Literal, Punct, Start, Stop, Doc}
use Rattle.educe_tokens.specs.Brackets.{same_bracket, open_after, closes, depth_after, nests}
use Rattle.educe_tokens.specs.Causes.{open_behind}

-- what is open, or none, says whether the rest closes it
abbrev pub closes_after : Option (List Bracket) → List TokenKind → Bool
closes_after opened more = elim opened [ None ↦ false | Some inner ↦ closes inner more ]

-- brackets that close behind one more token
pub closes-cons : (outer : List Bracket) (kind : TokenKind) (more : List TokenKind) → closes outer (kind ∷ more) ≡ closes_after (open_after outer kind) more
closes-cons [] kind more = refl
closes-cons (o ∷ outer) kind more = refl

-- what is not there is nothing that is there
pub none_is_not_some : {X : Type 0} (x : X) → ◌≡◌ {A = Option X} None (Some x) → ⊥
none_is_not_some x h = cc

-- what is there is one
pub same_some : {X : Type 0} (x y : X) → ◌≡◌ {A = Option X} (Some x) (Some y) → x ≡ y
same_some x y h = cc

-- what is open, or none, and what is open behind more tokens
abbrev then_open : Option (List Bracket) → List TokenKind → Option (List Bracket)
then_open opened more = elim opened [ None ↦ None | Some inner ↦ open_behind inner more ]

-- what is open behind one more token
pub open_behind-push : (outer inner : List Bracket) (ks : List TokenKind) (kind : TokenKind) → open_behind outer ks ≡ Some inner → open_behind outer (ks ++ kind ∷ []) ≡ open_after inner kind
open_behind-push outer inner [] kind h = last (open_after outer kind) ∙ ap (λ o. open_after o kind) (same_some outer inner h)
  where
    last : (opened : Option (List Bracket)) → then_open opened [] ≡ opened
    last None = refl
    last (Some o) = refl
open_behind-push outer inner (k ∷ ks) kind h =
    let Goal : Option (List Bracket) → Type 0 = λ opened. then_open opened ks ≡ Some inner → then_open opened (ks ++ kind ∷ []) ≡ open_after inner kind in
    let step : (opened : Option (List Bracket)) → Goal opened = λ opened. elim opened as Goal [
      | None ↦ λ e. absurd (none_is_not_some inner e)
      | Some after ↦ λ e. open_behind-push after inner ks kind e
    ] in
    step (open_after outer k) h

-- what follows closes all if it closes what is open before it
pub closes_behind : (outer inner : List Bracket) (ks more : List TokenKind) → open_behind outer ks ≡ Some inner → closes outer (ks ++ more) ≡ closes inner more
closes_behind outer inner [] more h = ap (λ o. closes o more) (same_some outer inner h)
closes_behind outer inner (k ∷ ks) more h =
    let Goal : Option (List Bracket) → Type 0 = λ opened. then_open opened ks ≡ Some inner → closes_after opened (ks ++ more) ≡ closes inner more in
    let step : (opened : Option (List Bracket)) → Goal opened = λ opened. elim opened as Goal [
      | None ↦ λ e. absurd (none_is_not_some inner e)
      | Some after ↦ λ e. closes_behind after inner ks more e
    ] in
    closes-cons outer k (ks ++ more) ∙ step (open_after outer k) h

-- the depth after one more token is the number of brackets that are open behind it
pub depth_of : (outer inner : List Bracket) (kind : TokenKind) → open_after outer kind ≡ Some inner → depth_after (length outer) kind ≡ length inner
depth_of outer inner (Start b) h = omega (arith, ap length (same_some (b ∷ outer) inner h))
depth_of [] inner (Stop b) h = absurd (none_is_not_some inner h)
depth_of (o ∷ outer) inner (Stop b) h =
    let Goal : Bool → Type 0 = λ same. ◌≡◌ {A = Option (List Bracket)} (cond same (Some outer) None) (Some inner) → length outer ≡ length inner in
    let both : (same : Bool) → Goal same = λ same. elim same as Goal [ true ↦ λ e. ap length (same_some outer inner e) | false ↦ λ e. absurd (none_is_not_some inner e) ] in
    let rest = both (same_bracket o b) h in
    omega (arith, rest)
depth_of outer inner Ident h = ap length (same_some outer inner h)
depth_of outer inner Lifetime h = ap length (same_some outer inner h)
depth_of outer inner (Literal l) h = ap length (same_some outer inner h)
depth_of outer inner (Punct c joint) h = ap length (same_some outer inner h)
depth_of outer inner Doc h = ap length (same_some outer inner h)

-- what nests within a limit goes on to do so from what is open
pub nests_behind : (limit : ℕ) (outer inner : List Bracket) (ks more : List TokenKind) → open_behind outer ks ≡ Some inner → nests limit (length outer) (ks ++ more) ≡ true → nests limit (length inner) more ≡ true
nests_behind limit outer inner [] more h n = subst (λ o. nests limit (length o) more ≡ true) (same_some outer inner h) n
nests_behind limit outer inner (k ∷ ks) more h n =
    let Goal : Option (List Bracket) → Type 0 = λ opened. open_after outer k ≡ opened → then_open opened ks ≡ Some inner → nests limit (length inner) more ≡ true in
    let step : (opened : Option (List Bracket)) → Goal opened = λ opened. elim opened as Goal [
      | None ↦ λ is e. absurd (none_is_not_some inner e)
      | Some after ↦ λ is e. nests_behind limit after inner ks more e (subst (λ d. nests limit d (ks ++ more) ≡ true) (depth_of outer after k is) (and_parts _ _ n).1)
    ] in
    step (open_after outer k) refl h

-- one more token nests within a limit if no more are open behind it
pub nests-push : (limit : ℕ) (outer inner : List Bracket) (ks : List TokenKind) (kind : TokenKind) → open_behind outer ks ≡ Some inner → nests limit (length outer) ks ≡ true → depth_after (length inner) kind ≤ limit
    → nests limit (length outer) (ks ++ kind ∷ []) ≡ true
nests-push limit outer inner [] kind h n within =
    let fits : depth_after (length outer) kind ≤ limit = subst (λ o. depth_after (length o) kind ≤ limit) (sym (same_some outer inner h)) within in
    let passes : nat_le (depth_after (length outer) kind) limit ≡ true = grind (arith, nat_tests) in
    and_from _ _ passes refl
nests-push limit outer inner (k ∷ ks) kind h n within =
    let parts = and_parts (nat_le (depth_after (length outer) k) limit) _ n in
    let Goal : Option (List Bracket) → Type 0 = λ opened. open_after outer k ≡ opened → then_open opened ks ≡ Some inner → nests limit (depth_after (length outer) k) (ks ++ kind ∷ []) ≡ true in
    let step : (opened : Option (List Bracket)) → Goal opened = λ opened. elim opened as Goal [
      | None ↦ λ is e. absurd (none_is_not_some inner e)
      | Some after ↦ λ is e.
          let deep = depth_of outer after k is in
          subst (λ d. nests limit d (ks ++ kind ∷ []) ≡ true) (sym deep) (nests-push limit after inner ks kind e (subst (λ d. nests limit d ks ≡ true) deep parts.1) within)
    ] in
    and_from _ _ parts.0 (step (open_after outer k) refl h)

-- a token that nests within a limit opens no bracket beyond it
pub depth_within : (limit depth : ℕ) (kind : TokenKind) (more : List TokenKind) → nests limit depth (kind ∷ more) ≡ true → depth_after depth kind ≤ limit
depth_within limit depth kind more n = let within = (and_parts (nat_le (depth_after depth kind) limit) (nests limit (depth_after depth kind) more) n).0 in grind (arith, nat_tests)

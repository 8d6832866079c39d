-- That a text is a word is one fact.
use Rattle.std.specs.Prelude.{◌≡◌, ℕ, Bool, List, ◌∷◌, IsTrue}
use mathlib.Core.Bool.{Bool-set}
use mathlib.Core.HLevel.{is_prop→PathP}
use mathlib.Core.List.{is_set}
use mathlib.Core.Path.{sym, ◌∙◌}
use Rattle.std.proofs.Math.Nat.{ℕ_set}
use Rattle.educe_tokens.specs.Chars.{is_word_start}
use Rattle.educe_tokens.specs.Spells.{IsWord}

-- Equal lists have equal first items.
first_same : (x y : ℕ) (xs ys : List ℕ) → x ∷ xs ≡ y ∷ ys → x ≡ y
first_same x y xs ys h = cc

-- Equal lists have equal rests.
rest_same : (x y : ℕ) (xs ys : List ℕ) → x ∷ xs ≡ y ∷ ys → xs ≡ ys
rest_same x y xs ys h = cc

-- Any two proofs that a test holds are equal.
IsTrue-prop : (b : Bool) → IsProp (IsTrue b)
IsTrue-prop b = hlevel (Bool-set)

-- Two proofs that a text is a word are equal.
pub IsWord-prop : (text : List ℕ) → IsProp (IsWord text)
IsWord-prop text a b =
    let same : a.first ∷ a.more ≡ b.first ∷ b.more = sym a.is ∙ b.is in
    let first = first_same _ _ _ _ same in
    let more = rest_same _ _ _ _ same in
    let continues = is_prop→PathP {0} _ (λ j. IsTrue-prop _) a.continues b.continues in
    λ i. record {
      first = first i;
      more = more i;
      is = is_prop→PathP (λ j. text ≡ first j ∷ more j) (λ j. is_set ℕ_set text (first j ∷ more j)) a.is b.is i;
      starts = is_prop→PathP (λ j. IsTrue (is_word_start (first j))) (λ j. IsTrue-prop (is_word_start (first j))) a.starts b.starts i;
      continues = continues i;
    }

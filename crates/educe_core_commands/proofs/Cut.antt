-- Two ways to cut one list.
use Rattle.std.proofs.Common.{◌≡◌, ℕ, zero, suc, ◌+◌, ◌-◌, ◌<◌, ◌≤◌, List, [], ◌∷◌, ◌++◌, length, get_or, refl, sym, ap, ◌∙◌, arith, length-append}
use Rattle.std.proofs.lemmas.List.{get_or-append-add}
use Rattle.std.specs.List.{AllByRecursion}

-- Of two cuts the later one is behind a list that the earlier rest begins with.
pub cut : (s t b c : List ℕ) → s ++ b ≡ t ++ c → length s ≤ length t → (d : List ℕ) × (t ≡ s ++ d) × (b ≡ d ++ c)
cut [] t b c e le = (t, refl, e)
cut (x ∷ s) [] b c e le = absurd (omega arith)
cut (x ∷ s) (y ∷ t) b c e le =
    let same : y ≡ x = cc in
    let rest : s ++ b ≡ t ++ c = cc in
    let found : (d : List ℕ) × (t ≡ s ++ d) × (b ≡ d ++ c) = cut s t b c rest (omega arith) in
    (found.0, (let e : t ≡ s ++ found.0 = found.1 in cc), found.2)

-- A list without elements is empty.
pub empty_is : (d : List ℕ) → length d ≡ 0 → d ≡ []
empty_is [] none = refl
empty_is (x ∷ d) none = absurd (omega arith)

-- The last element of a list that a longer one ends with.
pub last_is : (s d u : List ℕ) (x : ℕ) → 0 < length d → s ++ d ≡ u ++ (x ∷ []) → get_or d (length d - 1) 0 ≡ x
last_is s d u x some e =
    let at : length u ≡ length s + (length d - 1) = omega (arith, sym (length-append s d) ∙ ap length e ∙ length-append u (x ∷ [])) in
    sym (get_or-append-add s d (length d - 1) 0)
    ∙ ap (λ n. get_or (s ++ d) n 0) (sym at)
    ∙ ap (λ l. get_or l (length u) 0) e
    ∙ ap (λ n. get_or (u ++ (x ∷ [])) n 0) (let n : length u ≡ length u + 0 = omega arith in n)
    ∙ get_or-append-add u (x ∷ []) 0 0

-- What holds of each element holds at each index.
pub each_at : (P : ℕ → Type 0) (xs : List ℕ) (k : ℕ) → AllByRecursion P xs → k < length xs → P (get_or xs k 0)
each_at P [] k all lt = absurd (omega arith)
each_at P (x ∷ xs) zero all lt = all.0
each_at P (x ∷ xs) (suc k) all lt = each_at P xs k all.1 (omega arith)

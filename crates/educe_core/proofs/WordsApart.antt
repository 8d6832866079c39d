-- Words are at most one command.
use Rattle.std.proofs.Common.{◌≡◌, ℕ, ◌<◌, ◌≤◌, List, [], ◌∷◌, refl, sym, ap, ◌∙◌, arith}
use Rattle.std.specs.Prelude.{codes, decimal}
use Rattle.std.proofs.lemmas.Fmt.{decimal_injective}
use Rattle.educe_core.specs.declared.spoken.Spoken.{Spoken}
use Rattle.educe_core.specs.declared.spoken.Spoken.TheVariants.{Expand, Sample}
use Rattle.educe_core.specs.Spoken.{IsSpoken}

-- the second word, or nothing
abbrev second : List (List ℕ) → List ℕ
second [] = []
second (x ∷ []) = []
second (x ∷ y ∷ more) = y

-- the first word, or nothing
abbrev first : List (List ℕ) → List ℕ
first [] = []
first (x ∷ more) = x

pub spoken_once : (words : List (List ℕ)) (c d : Spoken) → IsSpoken c words → IsSpoken d words → c ≡ d
spoken_once words Expand Expand is was = refl
spoken_once words (Sample m) (Sample n) is was =
    ap (λ k. Sample k) (decimal_injective m n (omega (arith, is.within.1)) (omega (arith, was.within.1)) (ap second (sym is.are ∙ was.are)))
spoken_once words Expand (Sample n) is was = absurd (let e : codes "expand" ≡ codes "sample" = ap first (sym is.are ∙ was.are) in cc)
spoken_once words (Sample m) Expand is was = absurd (let e : codes "sample" ≡ codes "expand" = ap first (sym is.are ∙ was.are) in cc)

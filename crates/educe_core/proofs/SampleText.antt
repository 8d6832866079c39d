-- The variants of a sample, one by one.
use Rattle.std.proofs.Common.{◌≡◌, ℕ, zero, suc, ◌+◌, List, [], ◌++◌, refl, ap, arith}
use Rattle.educe_core.specs.Sample.{sample_variant, sample_variants}

-- there are none before the first
pub variants_none : sample_variants 0 ≡ []
unfolding sample_variants
variants_none = refl

-- the next one is behind those before it
pub variants_next : (place : ℕ) → sample_variants (place + 1) ≡ sample_variants place ++ sample_variant place
unfolding sample_variants
variants_next place = let next : place + 1 ≡ suc place = omega arith in ap sample_variants next

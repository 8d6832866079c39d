-- A sample is within the limit on inputs.
use Rattle.std.proofs.Common.{◌≡◌, ℕ, zero, suc, ◌+◌, ◌*◌, ◌%◌, ◌==◌, ◌^◌, ◌<◌, ◌≤◌, List, [], ◌++◌, length, Bool, true, false, refl, sym, ap, ◌∙◌, arith, length-append}
use Rattle.std.specs.Prelude.{codes, decimal, if◌then◌else◌}
use Rattle.std.proofs.lemmas.Fmt.{length-decimal-le}
use Rattle.educe_core_commands.specs.Commands.{IsWithinLimit}
use Rattle.educe_core.specs.declared.spoken.Spoken.{Spoken}
use Rattle.educe_core.specs.declared.spoken.Spoken.TheVariants.{Expand, Sample}
use Rattle.educe_core.specs.Sample.{sample_variant, sample_variants, sample_text}
use Rattle.educe_core.specs.Spoken.{IsSpoken, IsSpokenBy, meaning}

-- a number between two short texts is short
numbered : (before behind : List ℕ) (place : ℕ) → place ≤ 1000 → length before ≡ 2 → length behind ≤ 80 → length (before ++ (decimal place ++ behind)) ≤ 100
numbered before behind place few front back =
    omega (arith, length-append before (decimal place ++ behind), length-append (decimal place) behind, length-decimal-le 4 place (omega arith) (omega arith) (omega arith), front, back)

-- a variant has at most 100 bytes
variant_size : (place : ℕ) → place ≤ 1000 → length (sample_variant place) ≤ 100
variant_size place few = by_cases (place % 3 == 0) (place % 3 == 1)
  where
    by_cases : (a b : Bool) → length (if a then codes " V" ++ (decimal place ++ codes ",") else if b then codes " V" ++ (decimal place ++ codes "(u32, T),")
        else codes " V" ++ (decimal place ++ codes " { #[educe(PartialOrd(rank = 2), Ord(rank = 2), Hash(ignore))] a: u32, b: T },")) ≤ 100
    by_cases true b = numbered (codes " V") (codes ",") place few refl (omega arith)
    by_cases false true = numbered (codes " V") (codes "(u32, T),") place few refl (omega arith)
    by_cases false false = numbered (codes " V") (codes " { #[educe(PartialOrd(rank = 2), Ord(rank = 2), Hash(ignore))] a: u32, b: T },") place few refl (omega arith)

-- so many variants have at most so many hundred bytes
variants_size : (count : ℕ) → count ≤ 1000 → length (sample_variants count) ≤ 100 * count
unfolding sample_variants
variants_size zero few = omega arith
variants_size (suc place) few = omega (arith, length-append (sample_variants place) (sample_variant place), variants_size place (omega arith), variant_size place (omega arith))

-- the sample has at most 131,072 bytes
sample_size : (count : ℕ) → count ≤ 1000 → length (sample_text count) ≤ 131_072
sample_size count few =
    let head : List ℕ = codes "#[educe(PartialEq, PartialOrd, Ord, Hash)] #[repr(u16)] enum Sample<T> {" in
    let front : length head ≡ 72 = refl in
    omega (arith, length-append head (sample_variants count ++ codes " }"), length-append (sample_variants count) (codes " }"), variants_size count few, front)

-- the words of a command have no input past the limit
pub within_limit : (words : List (List ℕ)) (command : Spoken) → IsSpoken command words → IsWithinLimit (meaning command).origin
within_limit words Expand is = tt
within_limit words (Sample count) is = sample_size count is.within.1

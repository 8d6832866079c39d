-- Reported bytes that grow or shrink piece by piece.
use Rattle.std.proofs.Common.{◌≡◌, ℕ, ◌+◌, ◌-◌, ◌≤◌, List, ◌++◌, length, take, drop, Option, Some, None, sym, ap, ◌∙◌, refl, arith, append_assoc, length-append, length-drop}
use Rattle.std.proofs.Math.Seq.{take-add}
use Rattle.std.proofs.lemmas.List.{drop-drop}
use Rattle.educe_core_devices.specs.Devices.{ahead, behind, TakesAtMost}

-- two pieces in turn are their sum
pub behind-append : (told : Option (List ℕ)) (xs ys : List ℕ) → behind (behind told xs) ys ≡ behind told (xs ++ ys)
behind-append None xs ys = refl
behind-append (Some told) xs ys = ap Some (append_assoc told xs ys)

-- a piece before a piece is their sum
pub ahead-append : (xs ys : List ℕ) (told : Option (List ℕ)) → ahead xs (ahead ys told) ≡ ahead (xs ++ ys) told
ahead-append xs ys None = refl
ahead-append xs ys (Some told) = ap Some (sym (append_assoc xs ys told))

-- the rest that the rest leaves is one of the whole
pub rest_of_rest : (bytes rest new : List ℕ) (n : ℕ) → new ≡ drop n rest → n ≤ length rest → length rest ≤ length bytes → rest ≡ drop (length bytes - length rest) bytes → new ≡ drop (length bytes - length new) bytes
rest_of_rest bytes rest new n is bound within whole =
    let size : length new ≡ length rest - n = ap length is ∙ length-drop n rest in
    let place : length bytes - length new ≡ (length bytes - length rest) + n = omega arith in
    is ∙ ap (drop n) whole ∙ drop-drop n (length bytes - length rest) bytes ∙ ap (λ k. drop k bytes) (sym place)

-- with the first n bytes of the rest behind the front, the front is longer
pub behind_front : (told : Option (List ℕ)) (bytes rest new : List ℕ) (n : ℕ) → new ≡ drop n rest → n ≤ length rest → length rest ≤ length bytes → rest ≡ drop (length bytes - length rest) bytes → behind (behind told (take (length bytes - length rest) bytes)) (take n rest) ≡ behind told (take (length bytes - length new) bytes)
behind_front told bytes rest new n is bound within whole =
    let size : length new ≡ length rest - n = ap length is ∙ length-drop n rest in
    let place : length bytes - length new ≡ (length bytes - length rest) + n = omega arith in
    behind-append told (take (length bytes - length rest) bytes) (take n rest)
    ∙ ap (λ xs. behind told (take (length bytes - length rest) bytes ++ take n xs)) whole
    ∙ ap (behind told) (sym (take-add (length bytes - length rest) n bytes))
    ∙ ap (λ k. behind told (take k bytes)) (sym place)

-- a bounded piece behind what was taken is within the sum of the bounds
pub TakesAtMost-behind : (before mid after : Option (List ℕ)) (xs : List ℕ) (most n : ℕ) → before ≡ ahead xs mid → TakesAtMost most mid after → length xs + most ≤ n → TakesAtMost n before after
TakesAtMost-behind before mid after xs most n taken more bound = record {
  bytes = xs ++ more.bytes;
  front = taken ∙ ap (ahead xs) more.front ∙ ahead-append xs more.bytes after;
  bound = let size = length-append xs more.bytes in omega (arith, more.bound);
}

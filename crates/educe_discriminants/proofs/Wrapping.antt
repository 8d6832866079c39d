-- What is left of a sum in the bits of a type.
use Rattle.std.proofs.Common.{◌≡◌, ℕ, suc, ◌+◌, ◌-◌, ◌*◌, ◌/◌, ◌%◌, ◌^◌, ◌<◌, ◌≤◌, Bool, true, false, refl, sym, ap, ◌∙◌, add-one, arith}
use Rattle.std.specs.Prelude.{ℤ, pos, negsuc, neg_ℤ, ◌+ℤ◌, bit_and, unsigned_abs}
use Rattle.std.specs.Int.{Width, w8, w16, w32, w64, w128, cast_signed, int_rem_euclid, int_wrap}
use Rattle.std.proofs.lemmas.Int.{ints, int_rem_euclid_is, to_z_pos}
use Rattle.std.proofs.lemmas.Nat.{and_mask, pow_pos}
use Rattle.std.proofs.Math.Nat.{mod-add-mod, mod-lt, div-add-mod', mul-add-mod_self_right, mul_assoc}
use Rattle.std.proofs.Math.Facts.{to_z-neg}
use mir.Val.{bits, hbits}
use Rattle.educe_discriminants.specs.Ranges.{wrapped_to}

-- a number below 0 and the multiple of the divisor above it
multiple : (a n : ℕ) → 0 < n → n - 1 - a % n + suc a ≡ suc (a / n) * n
multiple a n some = omega (arith, div-add-mod' a n, mod-lt a some)

-- what is left of a sum is what is left of the sum of what is left
int_rem_euclid-add : (z : ℤ) (n s r : ℕ) → 0 < n → pos r ≡ int_rem_euclid z (pos n) → int_rem_euclid (z +ℤ pos s) (pos n) ≡ pos ((r + s) % n)
int_rem_euclid-add (pos a) n s r some is =
    let left : r ≡ a % n = cc in
    ap pos (sym (mod-add-mod a n s) ∙ ap (λ m. (m + s) % n) (sym left))
int_rem_euclid-add (negsuc a) n s r some is =
    let left : r ≡ n - 1 - a % n = cc in
    int_rem_euclid_is (negsuc a +ℤ pos s) (pos n) n (suc (a / n)) (r + s) some refl (omega (arith, ints, multiple a n some))

-- what is left is that of what is left of a multiple
int_rem_euclid-rem : (z : ℤ) (n q d m : ℕ) → 0 < n → 0 < d → n ≡ q * d → int_rem_euclid z (pos n) ≡ pos m → int_rem_euclid z (pos d) ≡ pos (m % d)
int_rem_euclid-rem (pos a) n q d m some more is left =
    let rest : a % n ≡ m = cc in
    let times : a / n * q * d ≡ a / n * n = mul_assoc (a / n) q d ∙ ap (λ k. a / n * k) (sym is) in
    let whole : a ≡ a / n * q * d + m = omega (arith, div-add-mod' a n, times) in
    ap (λ k. pos (k % d)) whole ∙ ap pos (mul-add-mod_self_right (a / n * q) d m)
int_rem_euclid-rem (negsuc a) n q d m some more is left =
    let rest : n - 1 - a % n ≡ m = cc in
    let times : suc (a / n) * q * d ≡ suc (a / n) * n = mul_assoc (suc (a / n)) q d ∙ ap (λ k. suc (a / n) * k) (sym is) in
    int_rem_euclid_is (negsuc a) (pos d) d (suc (a / n) * q) m more refl (omega (arith, ints, multiple a n some, times))

-- each width divides 128 bits
widths : (w : Width) → 2 ^ 128 ≡ 2 ^ (128 - bits w) * 2 ^ bits w
widths w8 = refl
widths w16 = refl
widths w32 = refl
widths w64 = refl
widths w128 = refl

-- half of the numbers of so many bits have the sign
halves : (w : Width) → 2 ^ bits w ≡ 2 * 2 ^ hbits w
halves w8 = refl
halves w16 = refl
halves w32 = refl
halves w64 = refl
halves w128 = refl

-- there is a number of so many bits
some_number : (w : Width) → 0 < 2 ^ bits w
some_number w = pow_pos (bits w)

-- what is left with a sign, from the lowest bits
wrapped_signed : (w : Width) (z : ℤ) (b : ℕ) → int_rem_euclid z (pos (2 ^ bits w)) ≡ pos b → cast_signed w b ≡ int_wrap w z
unfolding int_wrap
wrapped_signed w z b is = sym (ap (λ n. cast_signed w (unsigned_abs n)) is)

-- of the lowest 128 bits of a number, a sum with them, and a mask that has a 1 for each bit of a type
module _ (signed : Bool) (w : Width) (z : ℤ) (s r mask : ℕ) (is : pos r ≡ int_rem_euclid z (pos (2 ^ 128))) (ones : mask ≡ 2 ^ bits w - 1) where
  -- the mask keeps the lowest bits
  masked : bit_and ((r + s) % 2 ^ 128) mask ≡ (r + s) % 2 ^ 128 % 2 ^ bits w
  masked = ap (bit_and ((r + s) % 2 ^ 128)) ones ∙ and_mask ((r + s) % 2 ^ 128) (bits w)

  -- they are what is left of the sum
  lowest : int_rem_euclid (z +ℤ pos s) (pos (2 ^ bits w)) ≡ pos (bit_and ((r + s) % 2 ^ 128) mask)
  lowest =
      int_rem_euclid-rem (z +ℤ pos s) (2 ^ 128) (2 ^ (128 - bits w)) (2 ^ bits w) ((r + s) % 2 ^ 128) (some_number w128) (some_number w) (widths w)
      (int_rem_euclid-add z (2 ^ 128) s r (some_number w128) is)
      ∙ ap pos (sym masked)

  -- without a sign they are the number
  pub wrapped_unsigned : signed ≡ false → pos (bit_and ((r + s) % 2 ^ 128) mask) ≡ wrapped_to signed w (z +ℤ pos s)
  wrapped_unsigned e = rw e (sym lowest)

  -- with a sign they are, where the highest is 0
  pub wrapped_low : signed ≡ true → bit_and ((r + s) % 2 ^ 128) mask ≤ mask / 2 → pos (bit_and ((r + s) % 2 ^ 128) mask) ≡ wrapped_to signed w (z +ℤ pos s)
  wrapped_low e low =
      let b = bit_and ((r + s) % 2 ^ 128) mask in
      let small : b < 2 ^ hbits w = omega (arith, halves w, some_number w) in
      rw e (sym (to_z_pos w b small) ∙ wrapped_signed w (z +ℤ pos s) b lowest)

  -- with a sign, where it is 1, the number is below 0 by how far they are from the next multiple
  pub wrapped_high : signed ≡ true → mask / 2 < bit_and ((r + s) % 2 ^ 128) mask → neg_ℤ (pos (mask - bit_and ((r + s) % 2 ^ 128) mask + 1)) ≡ wrapped_to signed w (z +ℤ pos s)
  wrapped_high e high =
      let b = bit_and ((r + s) % 2 ^ 128) mask in
      let k = mask - b in
      let within : b < 2 ^ bits w = omega (arith, masked, mod-lt ((r + s) % 2 ^ 128) (some_number w)) in
      let next : k + 1 ≡ suc k = add-one k in
      let small : k < 2 ^ hbits w = omega (arith, halves w) in
      let own : 2 ^ bits w - suc k ≡ b = omega (arith, some_number w) in
      rw e (ap (λ n. neg_ℤ (pos n)) next ∙ sym (to_z-neg w k small) ∙ ap (cast_signed w) own ∙ wrapped_signed w (z +ℤ pos s) b lowest)

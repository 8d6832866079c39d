-- The ranges of integer types, and numbers wrapped to them (documentation of the primitive integer types).
use Rattle.std.specs.Prelude.{ℤ, pos, ◌^◌, ◌≡◌, Bool, true, false, FitsSigned}
use Rattle.std.specs.Int.{Width, FitsUnsignedBits, int_wrap, int_rem_euclid}
use mir.Val.{bits}
use Rattle.educe_discriminants.specs.declared.discriminant_type.DiscriminantType.{DiscriminantType}
use Rattle.educe_discriminants.specs.Types.{width, is_signed}

-- The number is in the range of the integer type with this width, signed or not.
abbrev pub Fits : Bool → Width → ℤ → Type 0
Fits true w n = FitsSigned w n
Fits false w n = FitsUnsignedBits (bits w) n

-- The number is in the range of the type.
abbrev pub IsInRange : DiscriminantType → ℤ → Type 0
IsInRange ty n = Fits (is_signed ty) (width ty) n

-- The number in the range of this width and sign that is congruent to the given one modulo 2 ^ bits.
abbrev pub wrapped_to : Bool → Width → ℤ → ℤ
wrapped_to true w n = int_wrap w n
wrapped_to false w n = int_rem_euclid n (pos (2 ^ bits w))

-- The number of the type that differs from a number by a multiple of 2^bits, as `wrapping_add` returns it.
abbrev pub wrapped : DiscriminantType → ℤ → ℤ
wrapped ty n = wrapped_to (is_signed ty) (width ty) n

-- What holds of ranges with no call: a number of the type is left as it is.
pub record RangeLaws : Type 0 where
  -- A number in the range of the type is wrapped to itself.
  pub kept : (ty : DiscriminantType) (n : ℤ) → IsInRange ty n → wrapped ty n ≡ n

-- Words, as characters.
use Rattle.std.proofs.Common.{◌≡◌, refl, codes, chars}
use Rattle.educe_tree.specs.TokenLaws.{ascii_chars}

-- the characters of `isize`
pub chars_isize : chars (codes "isize") ≡ codes "isize"
chars_isize = ascii_chars (codes "isize") refl

-- the characters of `i8`
pub chars_i8 : chars (codes "i8") ≡ codes "i8"
chars_i8 = ascii_chars (codes "i8") refl

-- the characters of `i16`
pub chars_i16 : chars (codes "i16") ≡ codes "i16"
chars_i16 = ascii_chars (codes "i16") refl

-- the characters of `i32`
pub chars_i32 : chars (codes "i32") ≡ codes "i32"
chars_i32 = ascii_chars (codes "i32") refl

-- the characters of `i64`
pub chars_i64 : chars (codes "i64") ≡ codes "i64"
chars_i64 = ascii_chars (codes "i64") refl

-- the characters of `i128`
pub chars_i128 : chars (codes "i128") ≡ codes "i128"
chars_i128 = ascii_chars (codes "i128") refl

-- the characters of `usize`
pub chars_usize : chars (codes "usize") ≡ codes "usize"
chars_usize = ascii_chars (codes "usize") refl

-- the characters of `u8`
pub chars_u8 : chars (codes "u8") ≡ codes "u8"
chars_u8 = ascii_chars (codes "u8") refl

-- the characters of `u16`
pub chars_u16 : chars (codes "u16") ≡ codes "u16"
chars_u16 = ascii_chars (codes "u16") refl

-- the characters of `u32`
pub chars_u32 : chars (codes "u32") ≡ codes "u32"
chars_u32 = ascii_chars (codes "u32") refl

-- the characters of `u64`
pub chars_u64 : chars (codes "u64") ≡ codes "u64"
chars_u64 = ascii_chars (codes "u64") refl

-- the characters of `u128`
pub chars_u128 : chars (codes "u128") ≡ codes "u128"
chars_u128 = ascii_chars (codes "u128") refl

-- the characters of the names of the integer types
pub ruleset integer_names = (chars_isize, chars_i8, chars_i16, chars_i32, chars_i64, chars_i128, chars_usize, chars_u8, chars_u16, chars_u32, chars_u64, chars_u128)

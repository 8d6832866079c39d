-- Words, as characters.
use Rattle.std.proofs.Common.{◌≡◌, refl, codes, chars}
use Rattle.educe_syntax.specs.TokenLaws.{ascii_chars}

-- the characters of `allow`
pub chars_allow : chars (codes "allow") ≡ codes "allow"
chars_allow = ascii_chars (codes "allow") refl

-- the characters of `warn`
pub chars_warn : chars (codes "warn") ≡ codes "warn"
chars_warn = ascii_chars (codes "warn") refl

-- the characters of `deny`
pub chars_deny : chars (codes "deny") ≡ codes "deny"
chars_deny = ascii_chars (codes "deny") refl

-- the characters of `expect`
pub chars_expect : chars (codes "expect") ≡ codes "expect"
chars_expect = ascii_chars (codes "expect") refl

-- the characters of `repr`
pub chars_repr : chars (codes "repr") ≡ codes "repr"
chars_repr = ascii_chars (codes "repr") refl

-- the characters of `packed`
pub chars_packed : chars (codes "packed") ≡ codes "packed"
chars_packed = ascii_chars (codes "packed") refl

-- the characters of `core`
pub chars_core : chars (codes "core") ≡ codes "core"
chars_core = ascii_chars (codes "core") refl

-- the characters of `std`
pub chars_std : chars (codes "std") ≡ codes "std"
chars_std = ascii_chars (codes "std") refl

-- the characters of `primitive`
pub chars_primitive : chars (codes "primitive") ≡ codes "primitive"
chars_primitive = ascii_chars (codes "primitive") refl

-- the characters of `str`
pub chars_str : chars (codes "str") ≡ codes "str"
chars_str = ascii_chars (codes "str") refl

-- the characters of `char`
pub chars_char : chars (codes "char") ≡ codes "char"
chars_char = ascii_chars (codes "char") refl

-- the characters of `bool`
pub chars_bool : chars (codes "bool") ≡ codes "bool"
chars_bool = ascii_chars (codes "bool") refl

-- the characters of `true`
pub chars_true : chars (codes "true") ≡ codes "true"
chars_true = ascii_chars (codes "true") refl

-- the characters of `false`
pub chars_false : chars (codes "false") ≡ codes "false"
chars_false = ascii_chars (codes "false") refl

-- the characters of `:`
pub chars_colon : chars (codes ":") ≡ codes ":"
chars_colon = ascii_chars (codes ":") refl

-- the characters of `mut`
pub chars_mut : chars (codes "mut") ≡ codes "mut"
chars_mut = ascii_chars (codes "mut") refl

-- the characters of `&`
pub chars_ampersand : chars (codes "&") ≡ codes "&"
chars_ampersand = ascii_chars (codes "&") refl

-- the characters of `[`
pub chars_square : chars (codes "[") ≡ codes "["
chars_square = ascii_chars (codes "[") refl

-- the characters of `;`
pub chars_semicolon : chars (codes ";") ≡ codes ";"
chars_semicolon = ascii_chars (codes ";") refl

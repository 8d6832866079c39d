-- Tests for primitive types by their tokens (Rust Reference, Types; documentation of `core`, the module `primitive`). A
-- spelling decides the kind of its token.
use Rattle.std.specs.Prelude.{ℕ, Bool, true, false, ◌||◌, if◌then◌else◌, List, [], ◌∷◌, codes, Option, Some, None, is_some, option_and_then}
use Rattle.std.specs.Option.{option_map}
use Rattle.std.specs.Str.{bytes_eq}
use Rattle.educe_tokens.specs.TokenKind.{TokenKind}
use Rattle.educe_tokens.specs.TokenKind.TheVariants.{Ident, Lifetime, Literal, Punct, Start, Stop, Doc}
use Rattle.educe_tokens.specs.declared.token.Token.{Token}

-- ---- prefixes of token lists

-- The tokens after the first, if that has this spelling.
abbrev pub behind : List ℕ → List Token → Option (List Token)
behind text [] = None
behind text (t ∷ ts) = if bytes_eq text t.spelling then Some ts else None

-- The optional tokens, or the given ones where there are none.
abbrev pub or_all : List Token → Option (List Token) → List Token
or_all tokens None = tokens
or_all tokens (Some rest) = rest

-- The tokens after a leading `::`.
abbrev pub behind_colons : List Token → Option (List Token)
behind_colons tokens = option_and_then (behind (codes ":")) (behind (codes ":") tokens)

-- The token is `core` or `std`.
abbrev pub is_root : Token → Bool
is_root t = bytes_eq (codes "core") t.spelling || bytes_eq (codes "std") t.spelling

-- The tokens after a leading `core` or `std`.
abbrev pub behind_root : List Token → Option (List Token)
behind_root [] = None
behind_root (t ∷ ts) = if is_root t then Some ts else None

-- The tokens after `core::` or `std::`, with or without a leading `::`.
abbrev pub behind_crate : List Token → Option (List Token)
behind_crate tokens = option_and_then behind_colons (behind_root (or_all tokens (behind_colons tokens)))

-- The tokens after `core::primitive::` or `std::primitive::`, with or without a leading `::`.
abbrev pub behind_module : List Token → Option (List Token)
behind_module tokens = option_and_then behind_colons (option_and_then (behind (codes "primitive")) (behind_crate tokens))

-- The tokens of a type without the path of the module `primitive`.
abbrev pub without_module : List Token → List Token
without_module tokens = or_all tokens (behind_module tokens)

-- ---- primitive types

-- The tokens are one token with this spelling.
abbrev pub is_alone : List ℕ → List Token → Bool
is_alone text [] = false
is_alone text (t ∷ []) = bytes_eq text t.spelling
is_alone text (t ∷ u ∷ ts) = false

-- The type is the primitive type of this name, by its name or its path in the module `primitive`.
abbrev pub is_primitive : List ℕ → List Token → Bool
is_primitive name ty = is_alone name (without_module ty)

-- The type is an integer type.
abbrev pub is_integer : List Token → Bool
is_integer ty =
    is_primitive (codes "u8") ty || is_primitive (codes "u16") ty || is_primitive (codes "u32") ty || is_primitive (codes "u64") ty
    || is_primitive (codes "u128") ty || is_primitive (codes "usize") ty || is_primitive (codes "i8") ty || is_primitive (codes "i16") ty
    || is_primitive (codes "i32") ty || is_primitive (codes "i64") ty || is_primitive (codes "i128") ty || is_primitive (codes "isize") ty

-- ---- references

-- A kind is that of a lifetime.
abbrev pub is_lifetime : TokenKind → Bool
is_lifetime Lifetime = true
is_lifetime Ident = false
is_lifetime (Literal l) = false
is_lifetime (Punct c joint) = false
is_lifetime (Start b) = false
is_lifetime (Stop b) = false
is_lifetime Doc = false

-- The tokens without a leading lifetime.
abbrev pub without_lifetime : List Token → List Token
without_lifetime [] = []
without_lifetime (t ∷ ts) = if is_lifetime t.kind then ts else t ∷ ts

-- The tokens without a leading `mut`.
abbrev pub without_mut : List Token → List Token
without_mut tokens = or_all tokens (behind (codes "mut") tokens)

-- The referenced type, of a reference with or without a lifetime and `mut`.
abbrev pub referred : List Token → Option (List Token)
referred ty = option_map (λ inner. without_mut (without_lifetime inner)) (behind (codes "&") ty)

-- The type is a reference to `str`, with or without lifetime and `mut`.
abbrev pub is_text : List Token → Bool
is_text ty = elim (referred ty) [ None ↦ false | Some inner ↦ is_primitive (codes "str") inner ]

-- The tokens of the element type of an array or a slice, and what follows them.
abbrev pub elements : List Token → Option (List Token)
elements ty = option_map without_module (behind (codes "[") ty)

-- The tokens after `u8` and `;`.
abbrev pub behind_bytes : List Token → Option (List Token)
behind_bytes tokens = option_and_then (behind (codes ";")) (behind (codes "u8") tokens)

-- The type is an array of `u8`: in its brackets it begins with `u8` and `;`.
abbrev pub is_byte_array : List Token → Bool
is_byte_array ty = is_some (option_and_then behind_bytes (elements ty))

-- The type is a reference to an array of `u8`.
abbrev pub is_bytes : List Token → Bool
is_bytes ty = elim (referred ty) [ None ↦ false | Some inner ↦ is_byte_array inner ]

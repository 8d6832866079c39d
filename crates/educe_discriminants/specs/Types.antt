-- The integer types that discriminants may have, and their names (Rust Reference, Numeric types).
use Rattle.std.specs.Prelude.{ℕ, Bool, true, false, List, [], ◌∷◌, Option, Some, None, if◌then◌else◌, codes}
use Rattle.std.specs.Int.{Width, w8, w16, w32, w64, w128}
use Rattle.std.specs.Str.{bytes_eq}
use Rattle.educe_discriminants.specs.declared.discriminant_type.DiscriminantType.{DiscriminantType}
use Rattle.educe_discriminants.specs.declared.discriminant_type.DiscriminantType.TheVariants.{ISize, I8, I16, I32, I64, I128, USize, U8, U16, U32, U64, U128}

-- All discriminant types, signed ones first.
abbrev pub types : List DiscriminantType
types = ISize ∷ I8 ∷ I16 ∷ I32 ∷ I64 ∷ I128 ∷ USize ∷ U8 ∷ U16 ∷ U32 ∷ U64 ∷ U128 ∷ []

-- The name of the type.
abbrev pub name_of : DiscriminantType → List ℕ
name_of ISize = codes "isize"
name_of I8 = codes "i8"
name_of I16 = codes "i16"
name_of I32 = codes "i32"
name_of I64 = codes "i64"
name_of I128 = codes "i128"
name_of USize = codes "usize"
name_of U8 = codes "u8"
name_of U16 = codes "u16"
name_of U32 = codes "u32"
name_of U64 = codes "u64"
name_of U128 = codes "u128"

-- The first of these types with this name.
abbrev pub first_named : List DiscriminantType → List ℕ → Option DiscriminantType
first_named [] name = None
first_named (ty ∷ more) name = if bytes_eq name (name_of ty) then Some ty else first_named more name

-- The integer type of this name, if there is one.
unfoldable pub type_named : List ℕ → Option DiscriminantType
type_named name = first_named types name

-- The number of bits of the type; `isize` and `usize` are taken to have 64.
abbrev pub width : DiscriminantType → Width
width ISize = w64
width I8 = w8
width I16 = w16
width I32 = w32
width I64 = w64
width I128 = w128
width USize = w64
width U8 = w8
width U16 = w16
width U32 = w32
width U64 = w64
width U128 = w128

-- The type is signed.
abbrev pub is_signed : DiscriminantType → Bool
is_signed ISize = true
is_signed I8 = true
is_signed I16 = true
is_signed I32 = true
is_signed I64 = true
is_signed I128 = true
is_signed USize = false
is_signed U8 = false
is_signed U16 = false
is_signed U32 = false
is_signed U64 = false
is_signed U128 = false

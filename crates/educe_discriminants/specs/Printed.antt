-- The printed tokens of discriminant types.
use Rattle.std.specs.Prelude.{◌≡◌, true, List, ◌++◌, codes, refl}
use Rattle.educe_tokens.specs.Lexes.{Lexeme}
use Rattle.educe_tokens.specs.Quote.{quoted}
use Rattle.educe_tokens.proofs.Printable.{IsPrintable, is_printable_template, printable-append, printable-quoted}
use Rattle.educe_discriminants.specs.declared.discriminant_type.DiscriminantType.{DiscriminantType}
use Rattle.educe_discriminants.specs.declared.discriminant_type.DiscriminantType.TheVariants.{ISize, I8, I16, I32, I64, I128, USize, U8, U16, U32, U64, U128}
use Rattle.educe_discriminants.specs.Types.{name_of}

-- The tokens of the type: `:: core :: primitive ::` and its name.
abbrev pub primitive_lexemes : DiscriminantType → List Lexeme
primitive_lexemes ty = quoted (codes ":: core :: primitive ::") ++ quoted (name_of ty)

-- The name of each type is a template of one token, which may stand side by side with others.
pub name_printable : (ty : DiscriminantType) → is_printable_template (name_of ty) ≡ true
name_printable ISize = refl
name_printable I8 = refl
name_printable I16 = refl
name_printable I32 = refl
name_printable I64 = refl
name_printable I128 = refl
name_printable USize = refl
name_printable U8 = refl
name_printable U16 = refl
name_printable U32 = refl
name_printable U64 = refl
name_printable U128 = refl

-- The tokens of each type may stand side by side with others.
pub primitive_printable : (ty : DiscriminantType) → IsPrintable (primitive_lexemes ty)
primitive_printable ty =
    printable-append (quoted (codes ":: core :: primitive ::")) (quoted (name_of ty)) (printable-quoted (codes ":: core :: primitive ::") refl)
    (printable-quoted (name_of ty) (name_printable ty))

-- The representation of whole numbers: a sign and a magnitude.
use Rattle.std.specs.Prelude.{◌≡◌, ℤ, pos, negsuc, true, false, refl}
use Rattle.std.specs.Int.{complement_if}
use Rattle.educe_discriminants.specs.declared.number.Number.TheInside.{Inside}

-- The fields of a whole number: whether it is below 0, and a magnitude.
abbrev pub fields_of : ℤ → Inside
fields_of (pos n) = record { is_negative = false; magnitude = n }
fields_of (negsuc n) = record { is_negative = true; magnitude = n }

-- A representation is that of the number it stands for.
pub fields_of-complement_if : (fields : Inside) → fields_of (complement_if fields.is_negative fields.magnitude) ≡ fields
fields_of-complement_if fields =
    elim fields.is_negative as (λ b. fields_of (complement_if b fields.magnitude) ≡ record { is_negative = b; magnitude = fields.magnitude }) [
      | true ↦ refl
      | false ↦ refl
    ]

-- The discriminants of an enum, as whole numbers (Rust Reference, Enumerations: discriminants).
use Rattle.std.specs.Prelude.{◌≡◌, ℕ, ℤ, pos, ◌+◌, ◌+ℤ◌, List, [], ◌∷◌, map, Option, Some, None, slice_get}
use Rattle.std.specs.List.{AllByRecursion, IsDistinct}
use Rattle.std.specs.Option.{option_map}
use Rattle.std.specs.Ordering.{int_eq}
use Rattle.educe_syntax.specs.DeriveInput.{DeriveInput}
use Rattle.educe_syntax.specs.Expr.{Expr}
use Rattle.educe_syntax.specs.Few.{variants_of}
use Rattle.educe_syntax.specs.Variant.{Variant}
use Rattle.educe_discriminants.specs.declared.discriminant_type.DiscriminantType.{DiscriminantType}
use Rattle.educe_discriminants.specs.Ranges.{IsInRange}
use Rattle.educe_attrs.specs.Represented.{IsDiscriminantType}
use Rattle.educe_body_values.specs.Constants.{number_of}
use Rattle.educe_body_values.specs.declared.answers.Answers.{Answers}
use Rattle.educe_body_values.specs.declared.value.Value.{Value}

-- What a variant's discriminant is counted from: the nearest expression that is written at it or before it, if there is one, and
-- how many variants it stands behind that one; without one, how many stand before it.
pub record Counted : Type 0 where
  pub variant : Variant
  pub written : Option Expr
  pub distance : ℕ

-- What the discriminants of variants are counted from, where the nearest expression before them and the distance of the first
-- variant to it are these.
abbrev pub counted_from : Option Expr → ℕ → List Variant → List Counted
counted_from near distance [] = []
counted_from near distance (v ∷ vs) =
    elim v.discriminant [
      | None ↦ record { variant = v; written = near; distance = distance } ∷ counted_from near (distance + 1) vs
      | Some value ↦ record { variant = v; written = Some value; distance = 0 } ∷ counted_from (Some value) 1 vs
    ]

-- What the discriminants of a definition's variants are counted from.
abbrev pub counted : DeriveInput → List Counted
counted definition = counted_from None 0 (variants_of definition)

-- The number of the expression that is counted from; without one it is 0.
abbrev pub base_number : Answers → Option Expr → Option ℤ
base_number table None = Some (pos 0)
base_number table (Some value) = number_of table value

-- The discriminant of a variant: the number of the nearest expression at it or before it, plus the distance to that one.
abbrev pub discriminant : Answers → Counted → Option ℤ
discriminant table c = option_map (λ n. n +ℤ pos c.distance) (base_number table c.written)

-- The discriminants of a definition, in written order; a struct has none.
abbrev pub discriminants : Answers → DeriveInput → List (Option ℤ)
discriminants table definition = map (discriminant table) (counted definition)

-- The number in an option of an option.
abbrev pub flat : Option (Option ℤ) → Option ℤ
flat None = None
flat (Some number) = number

-- The discriminant of a value's variant, where it has one.
abbrev pub discriminant_of : Answers → DeriveInput → Value → Option ℤ
discriminant_of table definition value = flat (slice_get (discriminants table definition) value.variant)

-- By the table each variant has a discriminant, and these are they; all are numbers of the discriminants' type.
pub record HaveNumbers (table : Answers) (definition : DeriveInput) (numbers : List ℤ) : Type 0 where
  pub are : discriminants table definition ≡ map Some numbers
  pub in_range : (ty : DiscriminantType) → IsDiscriminantType definition.attrs ty → AllByRecursion (IsInRange ty) numbers

-- By the table each variant has a discriminant, all are numbers of the discriminants' type, and no two of them are the same.
pub record HaveDiscriminants (table : Answers) (definition : DeriveInput) : Type 0 where
  pub numbers : List ℤ
  pub have : HaveNumbers table definition numbers
  pub distinct : IsDistinct int_eq numbers

-- What the functions of an enum rest on: its names, its methods and its discriminants, and the names in scope around an arm.
use Rattle.std.proofs.Common.{◌≡◌, ◌≤◌, ◌^◌, ◌⊎◌, ◌==◌, ℕ, true, false, not, List, [], length, Some, refl}
use Rattle.std.specs.Prelude.{codes}
use Rattle.std.specs.List.{AllByRecursion}
use Rattle.std.specs.Str.{bytes_eq}
use Rattle.std.proofs.lemmas.Bool.{eqb-true, and_parts}
use Rattle.std.proofs.lemmas.List.{nil_from_length}
use Rattle.educe_syntax.specs.DeriveInput.{DeriveInput}
use Rattle.educe_syntax.specs.Keywords.{unraw}
use Rattle.educe_syntax.specs.Naming.{AreApart, field_names, variant_names}
use Rattle.educe_syntax.specs.Shape.TheVariants.{Enum}
use Rattle.educe_syntax.specs.Variant.{Variant}
use Rattle.educe_bound_traits.specs.declared.traits.Trait.{Trait}
use Rattle.educe_body_values.specs.declared.environment.Binding.{Binding}
use Rattle.educe_body_values.specs.declared.environment.Referent.TheVariants.{This, Other}
use Rattle.educe_body_values.specs.Meaning.{look_up}
use Rattle.educe_settings.specs.Cases.{has_brackets, is_unit, fields_in}
use Rattle.educe_meaning.specs.Arms.{Names, plain_names, chosen_names}
use Rattle.educe_settings.proofs.Elements.{In}
use Rattle.educe_meaning.proofs.OwnTexts.{HasOwnNumber}
use Rattle.educe_meaning.proofs.Structs.{HaveOwnMethods}

-- the definition is an enum of these variants: their names are apart, and so are those of the fields of each
pub record IsEnumOf (d : DeriveInput) (variants : List Variant) : Type 0 where
  pub is : d.shape ≡ Enum variants
  pub names : AreApart (variant_names variants)
  pub fields : AllByRecursion (λ v. AreApart (field_names (fields_in v))) variants
  pub few : AllByRecursion (λ v. length (fields_in v) ≤ 2 ^ 64) variants

-- the definition is an enum of these variants, and the identifiers in methods and discriminants are words of it
pub record AreFit (which : Trait) (d : DeriveInput) (variants : List Variant) : Type 0 where
  pub enum : IsEnumOf d variants
  pub methods : AllByRecursion (λ v. HaveOwnMethods which d (fields_in v)) variants
  pub numbers : AllByRecursion (λ (v : Variant). HasOwnNumber d.tokens v.discriminant) variants

-- a unit variant has no fields
pub unit_has_none : (variant : Variant) → is_unit variant ≡ true → fields_in variant ≡ []
unit_has_none variant is =
    let none = and_parts (not (has_brackets variant.fields.form)) (length (fields_in variant) == 0) is in
    nil_from_length (fields_in variant) (eqb-true (length (fields_in variant)) 0 none.1)

-- the name is `self`, or one of those that were chosen
abbrev pub IsOwnName : List (List ℕ) → Binding → Type 0
IsOwnName names binding = (binding.name ≡ codes "self") ⊎ In binding.name names

-- names as they are written where nothing is in their way: they have no `r#`, and none of them is `self`
pub record ArePlain (names : List (List ℕ)) : Type 0 where
  pub raw : AllByRecursion (λ text. unraw text ≡ text) names
  pub others : AllByRecursion (λ text. bytes_eq text (codes "self") ≡ false) names

-- the plain names of an enum's comparison have no `r#`, and none of them is `self`
pub are_plain : ArePlain plain_names
are_plain = record { raw = (refl, (refl, (refl, (refl, tt)))); others = (refl, (refl, (refl, (refl, tt)))) }

-- the names in scope around a match: `self` and the second value are among them, and they stand for these
pub record IsOuter (names : Names) (outer : List Binding) : Type 0 where
  pub own : look_up outer (codes "self") ≡ Some This
  pub other : look_up outer names.other ≡ Some Other
  pub known : AllByRecursion (IsOwnName (chosen_names names)) outer

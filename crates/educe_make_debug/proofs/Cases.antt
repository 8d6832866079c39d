-- The cases of a definition, as they are read.
use Rattle.std.proofs.Common.{◌≡◌, ℕ, ◌+◌, ◌<◌, List, [], ◌∷◌, map, take, length, get_or, sym, subst}
use Rattle.std.specs.List.{AllByRecursion, AllZip}
use Rattle.std.proofs.lemmas.List.{take_more}
use Rattle.educe_syntax.specs.DeriveInput.{DeriveInput}
use Rattle.educe_syntax.specs.Few.{shape_variants}
use Rattle.educe_syntax.specs.Shape.{Shape}
use Rattle.educe_syntax.specs.Shape.TheVariants.{Enum}
use Rattle.educe_syntax.specs.Variant.{Variant}
use Rattle.educe_settings.specs.Shown.{ShownCase, variant_shown, cases_for, IsCaseRead}
use Rattle.educe_settings.proofs.Lists.{zip_mapped}
use Rattle.educe_settings.proofs.Elements.{each_joined}
use Rattle.educe_make_debug.specs.Cases.{IsCaseOf, AreCases, AreVariantCases}
use Rattle.educe_make_debug.specs.declared.debug_shown.Case.{Case}
use Rattle.educe_settings_types.specs.Read.{IsNamingRead, AreVariantsRead, AreRead}

-- cases of the same parts are the same
pub same_case : (case shown : ShownCase) → case.unit ≡ shown.unit → case.name ≡ shown.name → case.named ≡ shown.named → case.fields ≡ shown.fields → case ≡ shown
same_case case shown unit name named fields = λ i. record { unit = unit i; name = name i; named = named i; fields = fields i }

-- what holds of the first items of a list and of the next one
pub each_more : {A : Type 0} (P : A → Type 0) (xs : List A) (i : ℕ) (d x : A) → i < length xs → x ≡ get_or xs i d → AllByRecursion P (take i xs) → P x → AllByRecursion P (take (i + 1) xs)
each_more P xs i d x less item before here =
    rw (take_more xs i d less) (each_joined P (take i xs) (get_or xs i d ∷ []) before (subst P item here, tt))

-- ---- the cases of an enum

module _ (d : DeriveInput) (variants : List Variant) (is : d.shape ≡ Enum variants) where
  -- the cases of the variants of an enum
  pub enum_cases : (cases : List Case) → AreVariantCases d variants cases → AreCases d cases
  enum_cases cases are =
      subst (λ (shape : Shape). AllZip (IsCaseOf d) (cases_for d shape) cases) (sym is) (zip_mapped (IsCaseOf d) (variant_shown d) variants cases are)

  namings_read : (vs : List Variant) → AreVariantsRead d vs → AllByRecursion (IsNamingRead d) vs
  namings_read [] read = tt
  namings_read (v ∷ vs) read = (read.0.naming, namings_read vs read.1)

  cases_read : (vs : List Variant) → AreVariantsRead d vs → AllByRecursion (IsCaseRead d) (map (variant_shown d) vs)
  cases_read [] read = tt
  cases_read (v ∷ vs) read = (read.0.fields, cases_read vs read.1)

  -- whose attributes have no cause
  pub enum_read : AreVariantsRead d variants → AreRead d
  enum_read read = record {
    namings = subst (λ (shape : Shape). AllByRecursion (IsNamingRead d) (shape_variants shape)) (sym is) (namings_read variants read);
    cases = subst (λ (shape : Shape). AllByRecursion (IsCaseRead d) (cases_for d shape)) (sym is) (cases_read variants read);
  }

-- The blocks of `fmt`, for the cases of a definition.
use Rattle.std.proofs.Common.{◌≡◌, ◌≢◌, ℕ, zero, suc, ◌<◌, Bool, true, ◌||◌, List, [], ◌∷◌, length, get_or, map, refl, sym, ap, subst, arith}
use Rattle.std.specs.Prelude.{codes}
use Rattle.std.specs.List.{AllZip, list_any}
use Rattle.educe_syntax.specs.DeriveInput.{DeriveInput}
use Rattle.educe_syntax.specs.Ident.{Ident}
use Rattle.educe_syntax.specs.Shape.{Shape}
use Rattle.educe_syntax.specs.Shape.TheVariants.{Enum}
use Rattle.educe_syntax.specs.Variant.{Variant}
use Rattle.educe_bound_traits.specs.declared.traits.Trait.TheVariants.{Debug}
use Rattle.educe_body_forms.specs.declared.form.Arm.{Arm}
use Rattle.educe_body_forms.specs.declared.form.Form.{Form, MatchValue, HelperType}
use Rattle.educe_meaning.specs.Arms.{IsName}
use Rattle.educe_settings.specs.Settings.{type_settings}
use Rattle.educe_settings.specs.Shown.{ShownCase, type_text, cases_for, shown_cases, variant_shown}
use Rattle.educe_meaning.specs.Showing.{form_of}
use Rattle.educe_meaning.specs.ShownBodies.{DebugNames, IsWritten, IsDebugArm, IsDebugEnum, is_map, uses_map, HasHelper}
use Rattle.educe_make_debug.specs.Cases.{shown_of, AreCases, IsCaseOf, IsShown}
use Rattle.educe_make_debug.specs.declared.debug_shown.Case.{Case}
use Rattle.educe_make_debug.specs.declared.debug_shown.Shown.{Shown}

-- ---- lists side by side

-- there are as many on both sides
zip_length : {A B : Type 0} (R : A → B → Type 0) (xs : List A) (ys : List B) → AllZip R xs ys → length ys ≡ length xs
zip_length R [] [] zip = refl
zip_length R [] (y ∷ ys) zip = absurd zip
zip_length R (x ∷ xs) [] zip = absurd zip
zip_length R (x ∷ xs) (y ∷ ys) zip = ap suc (zip_length R xs ys zip.1)

-- what stands at a place on both sides
zip_at : {A B : Type 0} (R : A → B → Type 0) (xs : List A) (ys : List B) (i : ℕ) (x : A) (y : B) → AllZip R xs ys → i < length xs → x ≡ get_or xs i x → y ≡ get_or ys i y → R x y
zip_at R [] ys i x y zip less own other = absurd (omega arith)
zip_at R (a ∷ xs) [] i x y zip less own other = absurd zip
zip_at R (a ∷ xs) (b ∷ ys) zero x y zip less own other = subst (λ c. R c y) (sym own) (subst (R a) (sym other) zip.0)
zip_at R (a ∷ xs) (b ∷ ys) (suc i) x y zip less own other = zip_at R xs ys i x y zip.1 (omega arith) own other

-- side by side with what was made of each item
zip_unmapped : {A B C : Type 0} (R : B → C → Type 0) (f : A → B) (xs : List A) (ys : List C) → AllZip R (map f xs) ys → AllZip (λ x y. R (f x) y) xs ys
zip_unmapped R f [] [] zip = tt
zip_unmapped R f [] (y ∷ ys) zip = absurd zip
zip_unmapped R f (x ∷ xs) [] zip = absurd zip
zip_unmapped R f (x ∷ xs) (y ∷ ys) zip = (zip.0, zip_unmapped R f xs ys zip.1)

-- ---- the cases of an enum

module _ (shown : Shown) (is : IsShown shown) (variants : List Variant) (shape : shown.ast.now.shape ≡ Enum variants) where
  each_case : AllZip (λ v case. IsCaseOf shown.ast.now (variant_shown shown.ast.now v) case) variants shown.cases
  each_case =
      zip_unmapped (IsCaseOf shown.ast.now) (variant_shown shown.ast.now) variants shown.cases
      (subst (λ (s : Shape). AllZip (IsCaseOf shown.ast.now) (cases_for shown.ast.now s) shown.cases) shape is.cases_are)

  -- there is one for each variant
  pub cases_each : length shown.cases ≡ length variants
  cases_each = zip_length (λ v case. IsCaseOf shown.ast.now (variant_shown shown.ast.now v) case) variants shown.cases each_case

  -- the case of the variant at a place
  pub variant_case : (i : ℕ) (v : Variant) (case : Case) → i < length variants → v ≡ get_or variants i v → case ≡ get_or shown.cases i case
      → IsCaseOf shown.ast.now (variant_shown shown.ast.now v) case
  variant_case i v case less item found = zip_at (λ v case. IsCaseOf shown.ast.now (variant_shown shown.ast.now v) case) variants shown.cases i v case each_case less item found

-- ---- blocks

module _ (d : DeriveInput) (names : DebugNames) where
  -- the block for an enum without variants
  pub enum_written : (variants : List Variant) (name : List ℕ) (block : List Form) → length variants ≡ 0 → name ≡ type_text d (type_settings Debug d) → IsWritten names name block
      → IsDebugEnum d names variants block
  enum_written [] name block none name_is is = subst (λ (text : List ℕ). IsWritten names text block) name_is is
  enum_written (v ∷ vs) name block none name_is is = absurd (omega arith)

  -- and for one with variants
  pub enum_matched : (variants : List Variant) (arms : List Arm) (value : Ident) (block : List Form) → length variants ≢ 0 → IsName (codes "self") value
      → AllZip (IsDebugArm d names) variants arms → block ≡ MatchValue value arms ∷ [] → IsDebugEnum d names variants block
  enum_matched [] arms value block some value_is are is = absurd (some refl)
  enum_matched (v ∷ vs) arms value block some value_is are is = record { value = value; value_is = value_is; arms = arms; arms_are = are; block_is = is }

-- ---- the type of the keys of a map

-- it stands in front where it is used
pub with_helper : (names : DebugNames) (used : Bool) (helper formatter : Ident) (forms block : List Form) → used ≡ true → IsName names.helper helper → IsName names.formatter formatter
    → block ≡ HelperType helper formatter ∷ forms → HasHelper used names forms block
with_helper names used helper formatter forms block used_is helper_is formatter_is is =
    subst (λ (b : Bool). HasHelper b names forms block) (sym used_is) (helper, formatter, helper_is, formatter_is, is)

-- one of the cases is shown as a map
maps_same : (d : DeriveInput) (shown : List ShownCase) (cases : List Case) → AllZip (IsCaseOf d) shown cases
    → list_any (λ (case : Case). is_map (form_of (shown_of case))) cases ≡ list_any (λ (case : ShownCase). is_map (form_of case)) shown
maps_same d [] [] zip = refl
maps_same d [] (c ∷ cases) zip = absurd zip
maps_same d (s ∷ shown) [] zip = absurd zip
maps_same d (s ∷ shown) (c ∷ cases) zip = (λ i. is_map (form_of (zip.0.is i)) || maps_same d shown cases zip.1 i)

pub maps_are : (d : DeriveInput) (cases : List Case) → AreCases d cases → list_any (λ (case : Case). is_map (form_of (shown_of case))) cases ≡ uses_map d
maps_are d cases are = maps_same d (shown_cases d) cases are

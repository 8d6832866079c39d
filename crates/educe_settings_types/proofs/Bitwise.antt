-- Whether `clone` copies values as a whole, by the parts of the test.
use Rattle.std.proofs.Common.{◌≡◌, ◌∙◌, Bool, true, false, not, ◌&&◌, ◌||◌, ◌==◌, List, [], ◌∷◌, map, length, inl, inr, refl, ap, sym, arith}
use Rattle.std.specs.Prelude.{is_none}
use Rattle.std.specs.List.{list_any, list_all, flat_map}
use Rattle.std.proofs.lemmas.Bool.{eqb-true, false_from_ne_true}
use Rattle.std.proofs.lemmas.List.Folds.{list_all-append}
use Rattle.educe_syntax.specs.DeriveInput.{DeriveInput}
use Rattle.educe_syntax.specs.Few.{shape_fields, all_fields}
use Rattle.educe_syntax.specs.Field.{Field}
use Rattle.educe_syntax.specs.Shape.{Shape}
use Rattle.educe_syntax.specs.Shape.TheVariants.{Struct, Enum}
use Rattle.educe_syntax.specs.Variant.{Variant}
use Rattle.educe_syntax.specs.GenericParam.{GenericParam}
use Rattle.educe_tokens.specs.declared.error.EduceError.{EduceError}
use Rattle.educe_attrs.specs.Phases.{OfHandler}
use Rattle.educe_bound.specs.declared.bound.Bound.{Bound}
use Rattle.educe_bound_traits.specs.declared.traits.Trait.TheVariants.{Clone, Copy}
use Rattle.educe_bound_traits.specs.Traits.{is_listed}
use Rattle.educe_settings.specs.CaseSettings.{settings_in}
use Rattle.educe_settings.specs.Cases.{fields_in, shape_cases, cases_of}
use Rattle.educe_settings.specs.Copying.{is_empty, is_bitwise, copies_whole}
use Rattle.educe_settings.specs.Handled.{IsFieldwiseCause, handling}
use Rattle.educe_settings.specs.Listed.{listed}
use Rattle.educe_settings.specs.Settings.{settings_of, bound_for}
use Rattle.educe_settings.specs.Methods.{has_method}
use Rattle.educe_settings_types.proofs.Variants.{tested_variants}
use Rattle.educe_settings.proofs.Refused.{type_refused}
use Rattle.educe_settings_types.specs.Bitwise.{is_closed, is_closed_shape, is_unbounded, copies_with, OfCopy}

-- both tests of one item, and of the rest, in another order
exchanged : (m c n d : Bool) → ((not m && c) && (not n && d)) ≡ (not (m || n) && (c && d))
exchanged true c n d = refl
exchanged false true n d = refl
exchanged false false true d = refl
exchanged false false false d = refl

-- the first test is given as its opposite
by_opposite : (none c : Bool) → (none && c) ≡ (not (not none) && c)
by_opposite true c = refl
by_opposite false c = refl

module _ (d : DeriveInput) where
  -- the fields of one case
  case_bitwise : (fields : List Field)
      → list_all (is_bitwise d) fields ≡ (not (list_any has_method (map (settings_of Clone d) fields)) && list_all (is_closed d.generics.params) fields)
  case_bitwise [] = refl
  case_bitwise (f ∷ fs) =
      (λ j. by_opposite (is_none (settings_of Clone d f).values.method) (is_closed d.generics.params f) j && case_bitwise fs j)
      ∙ exchanged (has_method (settings_of Clone d f)) (is_closed d.generics.params f) (list_any has_method (map (settings_of Clone d) fs)) (list_all (is_closed d.generics.params) fs)

  -- the fields of variants
  variants_bitwise : (variants : List Variant)
      → list_all (is_bitwise d) (flat_map fields_in variants)
      ≡ (not (list_any (list_any has_method) (settings_in Clone d (map fields_in variants))) && list_all (is_closed d.generics.params) (flat_map fields_in variants))
  variants_bitwise [] = refl
  variants_bitwise (v ∷ vs) =
      let closed = is_closed d.generics.params in
      list_all-append (is_bitwise d) (fields_in v) (flat_map fields_in vs)
      ∙ (λ j. case_bitwise (fields_in v) j && variants_bitwise vs j)
      ∙ exchanged (list_any has_method (map (settings_of Clone d) (fields_in v))) (list_all closed (fields_in v)) (list_any (list_any has_method) (settings_in Clone d (map fields_in vs)))
      (list_all closed (flat_map fields_in vs))
      ∙ ap (λ all. not (list_any (list_any has_method) (settings_in Clone d (map fields_in (v ∷ vs)))) && all) (sym (list_all-append closed (fields_in v) (flat_map fields_in vs)))

  -- and all fields
  pub shape_bitwise : (shape : Shape)
      → list_all (is_bitwise d) (shape_fields shape)
      ≡ (not (list_any (list_any has_method) (settings_in Clone d (shape_cases shape))) && list_all (is_closed d.generics.params) (shape_fields shape))
  shape_bitwise (Struct shape) =
      case_bitwise shape.fields ∙ ap (λ some. not some && list_all (is_closed d.generics.params) shape.fields) (sym (or_none (list_any has_method (map (settings_of Clone d) shape.fields))))
    where
      or_none : (b : Bool) → (b || false) ≡ b
      or_none true = refl
      or_none false = refl
  shape_bitwise (Enum variants) = variants_bitwise variants

-- the types of all fields are tested case by case
pub closed_shape : (params : List GenericParam) (shape : Shape) → is_closed_shape params shape ≡ list_all (is_closed params) (shape_fields shape)
closed_shape params (Struct shape) = refl
closed_shape params (Enum variants) = tested_variants (is_closed params) variants

-- the whole test, with this bound, where `Copy` is listed
pub copies_by : (d : DeriveInput) (methods : Bool) (bound : Bound) → is_listed (listed d) Copy ≡ true → bound ≡ bound_for Copy d
    → ((not methods && is_closed_shape d.generics.params d.shape) && is_unbounded d bound) ≡ copies_with d methods
copies_by d methods bound lists same =
    let fields = not methods && is_closed_shape d.generics.params d.shape in
    ap (λ (b : Bound). fields && is_unbounded d b) same ∙ sym (ap (λ (b : Bool). b && fields && is_unbounded d (bound_for Copy d)) lists)

-- it says whether the value is copied as a whole, where it is known whether a field has a method
pub copies_known : (d : DeriveInput) (methods : Bool) → methods ≡ list_any (list_any has_method) (settings_in Clone d (cases_of d)) → copies_with d methods ≡ copies_whole d
copies_known d methods own =
    let fields : (not methods && is_closed_shape d.generics.params d.shape) ≡ list_all (is_bitwise d) (all_fields d) =
    (λ i. not (own i) && closed_shape d.generics.params d.shape i) ∙ sym (shape_bitwise d d.shape) in
    ap (λ (b : Bool). is_listed (listed d) Copy && b && is_unbounded d (bound_for Copy d)) fields

-- a list is empty where it has no item
pub empty_counted : {X : Type 0} (xs : List X) → (length xs == 0) ≡ is_empty xs
empty_counted [] = refl
empty_counted (x ∷ xs) = false_from_ne_true (length (x ∷ xs) == 0) (λ same. absurd (omega (arith, eqb-true (length (x ∷ xs)) 0 same)))

-- what the type says of `Copy` is a cause of `Clone`
pub copy_refused : (d : DeriveInput) (e : EduceError) → OfCopy d e → OfHandler (handling d) Clone e
copy_refused d e (lists, inl in_lists) = type_refused Clone refl d e (inl in_lists)
copy_refused d e (lists, inr said) = inr (IsFieldwiseCause.by_copy refl lists said.1)

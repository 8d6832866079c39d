-- The discriminants of values, as numbers that are compared.
use Rattle.std.proofs.Common.{◌≡◌, ℕ, zero, suc, ◌+◌, ℤ, pos, false, List, [], ◌∷◌}
use Rattle.std.proofs.Common.{map, Option, Some, None, slice_get, int_cmp, Ordering, Less, Equal, Greater, refl, sym, ap, ◌∙◌, subst}
use Rattle.std.specs.Prelude.{unwrap_or}
use Rattle.std.specs.List.{AllByRecursion, IsDistinct}
use Rattle.std.specs.Option.{option_map}
use Rattle.std.specs.Ordering.{int_eq, ordering_reverse}
use Rattle.std.proofs.lemmas.Bool.{true≢false}
use Rattle.std.proofs.lemmas.Cmp.{int_cmp_total}
use Rattle.std.proofs.lemmas.Map.Lookups.{exact_signed}
use Rattle.std.proofs.lemmas.Option.{same_Some, slice_get-map}
use Rattle.std.specs.Cmp.{Equal-is}
use Rattle.std.proofs.lemmas.Bool.Decides.{Decides-int_eq}
use Rattle.educe_syntax.specs.DeriveInput.{DeriveInput}
use Rattle.educe_syntax.specs.Expr.{Expr}
use Rattle.educe_syntax.specs.Few.{variants_of, shape_variants}
use Rattle.educe_syntax.specs.Field.{Field}
use Rattle.educe_syntax.specs.FieldShape.{FieldShape}
use Rattle.educe_syntax.specs.Shape.{Shape}
use Rattle.educe_syntax.specs.Shape.TheVariants.{Struct, Enum}
use Rattle.educe_syntax.specs.Variant.{Variant}
use Rattle.educe_body_values.specs.declared.answers.Answers.{Answers}
use Rattle.educe_body_values.specs.declared.value.Value.{Value}
use Rattle.educe_settings.specs.Cases.{shape_cases, fields_in}
use Rattle.educe_meaning.specs.Comparing.{HasShape, number_order}
use Rattle.educe_meaning.specs.Discriminants.{Counted, counted_from, counted, discriminant, discriminants, discriminant_of, flat, HaveDiscriminants}
use Rattle.educe_meaning_coherence.proofs.Lexicographic.{IsChain}

-- ---- whole numbers

-- The comparisons of three numbers are a chain.
chain_at : (l m n : ℤ) (o p q : Ordering) → int_cmp l m ≡ o → int_cmp m n ≡ p → int_cmp l n ≡ q → IsChain (Some o) (Some p) (Some q)
chain_at l m n Less Less q first second third up_first up_second = ap Some (sym third ∙ int_cmp_total.trans l m n first second)
chain_at l m n Less Equal q first second third up_first up_second = ap Some (sym third ∙ (ap (int_cmp l) (sym (exact_signed m n second)) ∙ first))
chain_at l m n Equal p q first second third up_first up_second = ap Some (sym third ∙ (int_cmp_total.congr l m n first ∙ second))
chain_at l m n Less Greater q first second third up_first up_second = absurd (true≢false (sym up_second))
chain_at l m n Greater p q first second third up_first up_second = absurd (true≢false (sym up_first))

pub number_chain : (l m n : ℤ) → IsChain (Some (int_cmp l m)) (Some (int_cmp m n)) (Some (int_cmp l n))
number_chain l m n = chain_at l m n (int_cmp l m) (int_cmp m n) (int_cmp l n) refl refl refl

pub number_turned : (m n : ℤ) → int_cmp n m ≡ ordering_reverse (int_cmp m n)
number_turned m n = int_cmp_total.antisymm n m

-- A number is Equal to itself.
pub number_same : (n : ℤ) → int_cmp n n ≡ Equal
number_same n = (Equal-is (int_cmp n n)).0 ((Decides-int_eq n n).1 refl)

-- ---- lists of numbers

in_found : {X : Type 0} (P : X → Type 0) (xs : List X) (k : ℕ) (x : X) → AllByRecursion P xs → slice_get xs k ≡ Some x → P x
in_found P [] k x each at = absurd (cc)
in_found P (y ∷ ys) zero x each at = subst P (same_Some y x at) each.0
in_found P (y ∷ ys) (suc k) x each at = in_found P ys k x each.1 at

not_at : (numbers : List ℤ) (k : ℕ) (n : ℤ) → AllByRecursion (λ m. int_eq n m ≡ false) numbers → slice_get numbers k ≡ Some n → ⊥
not_at numbers k n differs at = true≢false (sym ((Decides-int_eq n n).1 refl) ∙ in_found (λ m. int_eq n m ≡ false) numbers k n differs at)

-- Where no two numbers are the same, a number stands at one place.
one_place : (numbers : List ℤ) (j k : ℕ) (n : ℤ) → IsDistinct int_eq numbers → slice_get numbers j ≡ Some n → slice_get numbers k ≡ Some n → j ≡ k
unfolding IsDistinct
one_place [] j k n differ at there = absurd (cc)
one_place (m ∷ ms) zero zero n differ at there = refl
one_place (m ∷ ms) zero (suc k) n differ at there = absurd (not_at ms k m differ.0 (there ∙ sym at))
one_place (m ∷ ms) (suc j) zero n differ at there = absurd (not_at ms j m differ.0 (at ∙ sym there))
one_place (m ∷ ms) (suc j) (suc k) n differ at there = ap suc (one_place ms j k n differ.1 at there)

-- ---- the discriminants of a definition

-- What a variant and those behind it are counted from.
abbrev counted_next : Option Expr → ℕ → Variant → List Variant → Option Expr → List Counted
counted_next near distance v vs None = record { variant = v; written = near; distance = distance } ∷ counted_from near (distance + 1) vs
counted_next near distance v vs (Some value) = record { variant = v; written = Some value; distance = 0 } ∷ counted_from (Some value) 1 vs

-- The variants are those that are counted.
variants_counted : (near : Option Expr) (distance : ℕ) (vs : List Variant) → map (λ (c : Counted). c.variant) (counted_from near distance vs) ≡ vs
variants_counted near distance [] = refl
variants_counted near distance (v ∷ vs) =
    elim v.discriminant as (λ o. map (λ (c : Counted). c.variant) (counted_next near distance v vs o) ≡ v ∷ vs) [
      | None ↦ ap (λ rest. v ∷ rest) (variants_counted near (distance + 1) vs)
      | Some value ↦ ap (λ rest. v ∷ rest) (variants_counted (Some value) 1 vs)
    ]

-- The element of an image at a place is the image of the one there.
map_at : {X Y : Type 0} (f : X → Y) (xs : List X) (k : ℕ) (y : Y) → slice_get (map f xs) k ≡ Some y → (x : X) × (slice_get xs k ≡ Some x) × (f x ≡ y)
map_at f [] k y at = absurd (cc)
map_at f (x ∷ xs) zero y at = (x, refl, same_Some (f x) y at)
map_at f (x ∷ xs) (suc k) y at = map_at f xs k y at

-- A struct has one case.
one_case : (fs found : List Field) (n : ℕ) → slice_get (fs ∷ []) n ≡ Some found → n ≡ 0
one_case fs found zero at = refl
one_case fs found (suc n) at = absurd (cc)

-- The order of two numbers, where both stand or neither does.
by_none : (o p : Option ℤ) → o ≡ None → p ≡ None → number_order o p ≡ int_cmp (unwrap_or o (pos 0)) (unwrap_or p (pos 0))
by_none None None first second = sym (number_same (pos 0))
by_none (Some m) p first second = absurd (cc)
by_none None (Some n) first second = absurd (cc)

by_some : (o p : Option ℤ) (m n : ℤ) → o ≡ Some m → p ≡ Some n → number_order o p ≡ int_cmp (unwrap_or o (pos 0)) (unwrap_or p (pos 0))
by_some (Some k) (Some l) m n first second = refl
by_some None p m n first second = absurd (cc)
by_some (Some k) None m n first second = absurd (cc)

-- The number of a value: its discriminant, or 0 for a struct.
abbrev pub code : Answers → DeriveInput → Value → ℤ
code table d a = unwrap_or (discriminant_of table d a) (pos 0)

-- Values of one case have one number.
pub same_code : (table : Answers) (d : DeriveInput) (a b : Value) → a.variant ≡ b.variant → code table d a ≡ code table d b
same_code table d a b same = ap (λ n. unwrap_or (flat (slice_get (discriminants table d) n)) (pos 0)) same

module _ (table : Answers) (d : DeriveInput) (has : HaveDiscriminants table d) where
  -- The discriminants of two values compare as their numbers do; and where these are the same, the values are of one case.
  pub record AreNumbered (a b : Value) : Type 0 where
    pub is : number_order (discriminant_of table d a) (discriminant_of table d b) ≡ int_cmp (code table d a) (code table d b)
    pub same : code table d a ≡ code table d b → a.variant ≡ b.variant

  none_of : (a : Value) (shape : FieldShape) → d.shape ≡ Struct shape → discriminant_of table d a ≡ None
  none_of a shape is = ap (λ (s : Shape). flat (slice_get (map (discriminant table) (counted_from None 0 (shape_variants s))) a.variant)) is

  first_of_struct : (a : Value) (shape : FieldShape) → d.shape ≡ Struct shape → HasShape d a → a.variant ≡ 0
  first_of_struct a shape is has_shape = one_case shape.fields has_shape.fields a.variant (ap (λ (s : Shape). slice_get (shape_cases s) a.variant) (sym is) ∙ has_shape.exists)

  number_of_variant : (a : Value) (variants : List Variant) → d.shape ≡ Enum variants → HasShape d a → (n : ℤ) × (slice_get has.numbers a.variant ≡ Some n) × (discriminant_of table d a ≡ Some n)
  number_of_variant a variants is has_shape =
      let v = map_at fields_in variants a.variant has_shape.fields (ap (λ (s : Shape). slice_get (shape_cases s) a.variant) (sym is) ∙ has_shape.exists) in
      let there : slice_get (map (λ (c : Counted). c.variant) (counted d)) a.variant ≡ Some v.0 =
      ap (λ vs. slice_get vs a.variant) (variants_counted None 0 (variants_of d) ∙ ap shape_variants is) ∙ v.1 in
      let c = map_at (λ (c : Counted). c.variant) (counted d) a.variant v.0 there in
      let found : slice_get (discriminants table d) a.variant ≡ Some (discriminant table c.0) =
      slice_get-map (discriminant table) (counted d) a.variant ∙ ap (option_map (discriminant table)) c.1 in
      let n = map_at Some has.numbers a.variant (discriminant table c.0) (ap (λ ns. slice_get ns a.variant) (sym has.have.are) ∙ found) in
      (n.0, n.1, ap flat found ∙ sym n.2)

  pub are_numbered : (a b : Value) → HasShape d a → HasShape d b → AreNumbered a b
  are_numbered a b first second = by_shape d.shape refl
    where
      by_shape : (shape : Shape) → d.shape ≡ shape → AreNumbered a b
      by_shape (Struct shape) is = record {
        is = by_none (discriminant_of table d a) (discriminant_of table d b) (none_of a shape is) (none_of b shape is);
        same = λ _. first_of_struct a shape is first ∙ sym (first_of_struct b shape is second);
      }
      by_shape (Enum variants) is =
          let m = number_of_variant a variants is first in
          let n = number_of_variant b variants is second in
          record {
            is = by_some (discriminant_of table d a) (discriminant_of table d b) m.0 n.0 m.2 n.2;
            same = λ same.
                let alike : m.0 ≡ n.0 = sym (ap (λ o. unwrap_or o (pos 0)) m.2) ∙ (same ∙ ap (λ o. unwrap_or o (pos 0)) n.2) in
                one_place has.numbers a.variant b.variant m.0 has.distinct m.1 (n.1 ∙ ap Some (sym alike));
          }

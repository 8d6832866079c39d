-- Where `PartialOrd` takes what fields say of `Ord`, `partial_cmp` means in `Some` what `cmp` means.
use Rattle.std.proofs.Common.{◌≡◌, Some, slice_get, int_cmp, Ordering, Less, Equal, Greater, refl, sym, ap, ◌∙◌, subst}
use Rattle.std.specs.Prelude.{IsSome}
use Rattle.std.specs.List.{AllByRecursion}
use Rattle.std.proofs.lemmas.Map.Lookups.{exact_signed}
use Rattle.educe_syntax.specs.DeriveInput.{DeriveInput}
use Rattle.educe_syntax.specs.Shape.{Shape}
use Rattle.educe_syntax.specs.Shape.TheVariants.{Struct, Enum}
use Rattle.educe_body_forms.specs.declared.comparison.Comparison.TheVariants.{PartialOrd, Ord}
use Rattle.educe_body_values.specs.declared.answers.Answers.{Answers}
use Rattle.educe_body_values.specs.declared.value.Value.{Value}
use Rattle.educe_settings.specs.Cases.{fields_in, shape_cases}
use Rattle.educe_meaning.specs.Comparing.{HasShape, Compared, compared, says, Covers, order, number_order, discriminants_first, outcome, meaning}
use Rattle.educe_meaning.specs.Discriminants.{discriminant_of, HaveDiscriminants}
use Rattle.educe_settings.proofs.Elements.{map_at}
use Rattle.educe_meaning.proofs.Enums.{one_place}
use Rattle.educe_meaning.proofs.KeyFunctions.{number_at}
use Rattle.educe_meaning.proofs.Structs.{one_case}
use Rattle.educe_meaning.specs.OrderLaws.{TakesFromOrd, CoversAlike, in_some, OrderLaws}
use Rattle.educe_meaning.proofs.Following.{compared_followed, Follows, each_follows, each_known, order_followed, outcome_followed}

-- two values whose discriminants do not differ are of one case
one_variant : (table : Answers) (d : DeriveInput) (has : HaveDiscriminants table d) (a b : Value) → HasShape d a → HasShape d b
    → number_order (discriminant_of table d a) (discriminant_of table d b) ≡ Equal → a.variant ≡ b.variant
one_variant table d has a b first second alike = by_shape d.shape refl
  where
    by_shape : (shape : Shape) → d.shape ≡ shape → a.variant ≡ b.variant
    by_shape (Struct shape) is =
        let at_a = one_case shape.fields first.fields a.variant (ap (λ (s : Shape). slice_get (shape_cases s) a.variant) (sym is) ∙ first.exists) in
        let at_b = one_case shape.fields second.fields b.variant (ap (λ (s : Shape). slice_get (shape_cases s) b.variant) (sym is) ∙ second.exists) in
        at_a.0 ∙ sym at_b.0
    by_shape (Enum variants) is =
        let v = map_at fields_in variants a.variant first.fields (ap (λ (s : Shape). slice_get (shape_cases s) a.variant) (sym is) ∙ first.exists) in
        let w = map_at fields_in variants b.variant second.fields (ap (λ (s : Shape). slice_get (shape_cases s) b.variant) (sym is) ∙ second.exists) in
        let m = number_at d table variants is has.numbers has.have a v.0 v.1 in
        let n = number_at d table variants is has.numbers has.have b w.0 w.1 in
        let equal : int_cmp m.0 n.0 ≡ Equal = (λ i. number_order (sym m.2 i) (sym n.2 i)) ∙ alike in
        one_place has.numbers a.variant b.variant m.0 has.distinct m.1 (n.1 ∙ ap Some (sym (exact_signed m.0 n.0 equal)))

module _ (table : Answers) (d : DeriveInput) (a b : Value) (takes : TakesFromOrd d) (alike : CoversAlike table d a b) where
  follows : a.variant ≡ b.variant → AllByRecursion (Follows table) (compared Ord d a b)
  follows one = each_follows table (compared Ord d a b) (alike.covers.each one) (alike.alike one)

  covers : Covers PartialOrd table d a b
  covers = record {
    first = alike.covers.first;
    second = alike.covers.second;
    each = λ one. subst (AllByRecursion (λ (c : Compared). IsSome (says PartialOrd table c))) (sym (compared_followed d takes a b)) (each_known table (compared Ord d a b) (follows one));
    ordered = λ _. alike.covers.ordered refl;
  }

  agree_at : (o : Ordering) → number_order (discriminant_of table d a) (discriminant_of table d b) ≡ o
      → outcome (discriminants_first PartialOrd o (order PartialOrd table (compared PartialOrd d a b))) ≡ in_some (outcome (discriminants_first Ord o (order Ord table (compared Ord d a b))))
  agree_at Less is = refl
  agree_at Greater is = refl
  agree_at Equal is =
      let one = one_variant table d (alike.covers.ordered refl) a b alike.covers.first alike.covers.second is in
      ap outcome (ap (order PartialOrd table) (compared_followed d takes a b) ∙ order_followed table (compared Ord d a b) (follows one))
      ∙ outcome_followed (order Ord table (compared Ord d a b))

  agree : meaning PartialOrd table d a b ≡ in_some (meaning Ord table d a b)
  agree = agree_at (number_order (discriminant_of table d a) (discriminant_of table d b)) refl

-- the law of both orders
pub lawful_orders : OrderLaws
lawful_orders = record { covers = covers; agree = agree }

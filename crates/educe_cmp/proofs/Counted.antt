-- The constants of variants, as they are counted one after the other.
use Rattle.std.proofs.Common.{◌≡◌, ℕ, ◌+◌, ◌<◌, ◌≤◌, List, [], ◌∷◌, ◌++◌, drop, length, get_or, Option, Some, None, refl, sym, ap, ◌∙◌, subst, arith}
use Rattle.std.specs.List.{AllZip}
use Rattle.std.proofs.lemmas.List.{append_assoc, append-nil, drop_more, drop_all}
use Rattle.educe_syntax.specs.Expr.{Expr}
use Rattle.educe_syntax.specs.Variant.{Variant}
use Rattle.educe_discriminants.specs.declared.discriminant_type.DiscriminantType.{DiscriminantType}
use Rattle.educe_body_forms.specs.declared.key_function.Constant.{Constant}
use Rattle.educe_meaning.specs.Arms.{IsBase, IsDistance, IsConstant}
use Rattle.educe_meaning.specs.Discriminants.{Counted, counted_from}

-- what is found so far are the constants of the variants before a place, if those from there on are counted from this expression,
-- and at this distance
pub record IsCounted (ty : DiscriminantType) (base : List ℕ) (variants : List Variant) (place : ℕ) (value : Expr) (steps : ℕ) (found : List Constant) : Type 0 where
  pub near : Option Expr
  pub near_is : IsBase near value
  pub reached : steps ≤ place
  pub onward : (rest : List Constant) → AllZip (IsConstant ty base) (counted_from near steps (drop place variants)) rest → AllZip (IsConstant ty base) (counted_from None 0 variants) (found ++ rest)

-- the constants that are counted from a variant on, by its discriminant
abbrev counted_by : Option Expr → ℕ → Variant → List Variant → Option Expr → List Counted
counted_by near steps v vs o =
    elim o [
      | None ↦ record { variant = v; written = near; distance = steps } ∷ counted_from near (steps + 1) vs
      | Some value ↦ record { variant = v; written = Some value; distance = 0 } ∷ counted_from (Some value) 1 vs
    ]

-- a variant with no expression goes on counting
pub counted_without : (near : Option Expr) (steps count : ℕ) (v : Variant) → count ≡ steps → v.discriminant ≡ None → (vs : List Variant)
    → counted_from near steps (v ∷ vs) ≡ record { variant = v; written = near; distance = count } ∷ counted_from near (count + 1) vs
counted_without near steps count v same none vs =
    ap (counted_by near steps v vs) none ∙ ap (λ (k : ℕ). record { variant = v; written = near; distance = k } ∷ counted_from near (k + 1) vs) (sym same)

-- one with an expression begins anew
pub counted_with : (near : Option Expr) (steps count : ℕ) (v : Variant) (value : Expr) → count ≡ 0 → v.discriminant ≡ Some value → (vs : List Variant)
    → counted_from near steps (v ∷ vs) ≡ record { variant = v; written = Some value; distance = count } ∷ counted_from (Some value) (count + 1) vs
counted_with near steps count v value same some vs =
    ap (counted_by near steps v vs) some ∙ ap (λ (k : ℕ). record { variant = v; written = Some value; distance = k } ∷ counted_from (Some value) (k + 1) vs) (sym same)

-- one variant on
pub counted_more : (ty : DiscriminantType) (base : List ℕ) (variants : List Variant) (place : ℕ) (value : Expr) (steps : ℕ) (d v : Variant) (found more : List Constant) (constant : Constant)
    (count : ℕ) (next : Expr) (near : Option Expr) → place < length variants → v ≡ get_or variants place d → (so_far : IsCounted ty base variants place value steps found)
    → ((vs : List Variant) → counted_from so_far.near steps (v ∷ vs) ≡ record { variant = v; written = near; distance = count } ∷ counted_from near (count + 1) vs)
    → count ≤ place → IsBase near next → more ≡ found ++ constant ∷ [] → constant.value ≡ next → IsDistance ty base count constant.distance
    → IsCounted ty base variants (place + 1) next (count + 1) more
counted_more ty base variants place value steps d v found more constant count next near less item so_far here reached base_is pushed same distance_is =
    let rest = drop (place + 1) variants in
    let first : Counted = record { variant = v; written = near; distance = count } in
    let split : counted_from so_far.near steps (drop place variants) ≡ first ∷ counted_from near (count + 1) rest =
    ap (counted_from so_far.near steps) (drop_more variants place d less ∙ ap (λ x. x ∷ rest) (sym item)) ∙ here rest in
    record {
      near = near;
      near_is = base_is;
      reached = omega (arith, reached);
      onward = λ later side.
          subst (AllZip (IsConstant ty base) (counted_from None 0 variants)) (sym (append_assoc found (constant ∷ []) later) ∙ ap (λ xs. xs ++ later) (sym pushed))
          (so_far.onward (constant ∷ later)
          (subst (λ xs. AllZip (IsConstant ty base) xs (constant ∷ later)) (sym split)
          (record { value_is = subst (IsBase near) (sym same) base_is; distance_is = distance_is }, side)));
    }

-- one variant on, by what is given of the nearest expression and its distance
pub counted_next : (ty : DiscriminantType) (base : List ℕ) (variants : List Variant) (place : ℕ) (value : Expr) (steps : ℕ) (d v : Variant) (found more : List Constant) (constant : Constant)
    (count : ℕ) (next : Expr) → place < length variants → v ≡ get_or variants place d → IsCounted ty base variants place value steps found
    → ((own : Expr) → v.discriminant ≡ Some own → (next ≡ own) × (count ≡ 0)) → (v.discriminant ≡ None → (next ≡ value) × (count ≡ steps))
    → more ≡ found ++ constant ∷ [] → constant.value ≡ next → IsDistance ty base count constant.distance
    → IsCounted ty base variants (place + 1) next (count + 1) more
counted_next ty base variants place value steps d v found more constant count next less item so_far written unwritten pushed same distance_is = by_discriminant v.discriminant refl
  where
    by_discriminant : (o : Option Expr) → v.discriminant ≡ o → IsCounted ty base variants (place + 1) next (count + 1) more
    by_discriminant None none =
        let is = unwritten none in
        counted_more ty base variants place value steps d v found more constant count next so_far.near less item so_far (counted_without so_far.near steps count v is.1 none)
        (omega (arith, is.1, so_far.reached)) (subst (IsBase so_far.near) (sym is.0) so_far.near_is) pushed same distance_is
    by_discriminant (Some own) some =
        let is = written own some in
        counted_more ty base variants place value steps d v found more constant count next (Some own) less item so_far (counted_with so_far.near steps count v own is.1 some)
        (omega (arith, is.1)) is.0 pushed same distance_is

-- behind the last variant
pub counted_all : (ty : DiscriminantType) (base : List ℕ) (variants : List Variant) (place : ℕ) (value : Expr) (steps : ℕ) (found : List Constant)
    → length variants ≤ place → IsCounted ty base variants place value steps found → AllZip (IsConstant ty base) (counted_from None 0 variants) found
counted_all ty base variants place value steps found all so_far =
    subst (AllZip (IsConstant ty base) (counted_from None 0 variants)) (append-nil found)
    (so_far.onward [] (subst (λ xs. AllZip (IsConstant ty base) (counted_from so_far.near steps xs) []) (sym (drop_all place variants all)) tt))

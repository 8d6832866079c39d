-- The places of types, and calls of `Default::default`.
use Rattle.std.proofs.Common.{◌≡◌, ℕ, suc, ◌+◌, ◌<◌, ◌≤◌, ◌&&◌, Bool, true, false, List, [], ◌∷◌, ◌++◌, length, get_or, take, drop, refl, sym, ap, subst, ◌∙◌, arith}
use Rattle.std.specs.Prelude.{if◌then◌else◌}
use Rattle.std.specs.Cmp.Lexicographic.{pointwise}
use Rattle.std.specs.List.{flat_map}
use Rattle.std.specs.Str.{bytes_eq}
use Rattle.std.proofs.lemmas.List.{drop_more}
use Rattle.educe_tokens.specs.declared.token.Token.{Token}
use Rattle.educe_tree.specs.declared.data.Field.{Field}
use Rattle.educe_tree.specs.declared.data.Variant.{Variant}
use Rattle.educe_body_values.specs.Callees.{spellings}
use Rattle.educe_body_values.specs.Types.{type_spellings, first_place}

-- ---- places

within_step : (b : Bool) (n m : ℕ) → n ≤ m → (if b then 0 else n + 1) ≤ suc m
within_step true n m within = omega arith
within_step false n m within = omega arith

-- the place of a type is within the fields, or how many these are
pub first_place-within : (xs : List Field) (type : List (List ℕ)) → first_place xs type ≤ length xs
first_place-within [] type = omega arith
first_place-within (f ∷ fs) type = within_step (pointwise bytes_eq (type_spellings f) type) _ _ (first_place-within fs type)

here_step : (b : Bool) (n more m : ℕ) → (n < m → more ≡ n) → (if b then 0 else n + 1) < suc m → (if b then 0 else more + 1) ≡ (if b then 0 else n + 1)
here_step true n more m same here = refl
here_step false n more m same here = ap (λ (n : ℕ). n + 1) (same (omega arith))

-- a type that some of the first fields has is there
pub first_place-here : (xs ys : List Field) (type : List (List ℕ)) → first_place xs type < length xs → first_place (xs ++ ys) type ≡ first_place xs type
first_place-here [] ys type here = absurd (omega arith)
first_place-here (f ∷ fs) ys type here = here_step (pointwise bytes_eq (type_spellings f) type) _ _ (length fs) (first_place-here fs ys type) here

past_step : (b : Bool) (n more m k : ℕ) → (m ≤ n → more ≡ n + k) → suc m ≤ (if b then 0 else n + 1) → (if b then 0 else more + 1) ≡ (if b then 0 else n + 1) + k
past_step true n more m k sums past = absurd (omega arith)
past_step false n more m k sums past = let rest = sums (omega arith) in omega arith

-- one that none of them has is behind them
pub first_place-past : (xs ys : List Field) (type : List (List ℕ)) → length xs ≤ first_place xs type → first_place (xs ++ ys) type ≡ first_place xs type + first_place ys type
first_place-past [] ys type past = omega arith
first_place-past (f ∷ fs) ys type past = past_step (pointwise bytes_eq (type_spellings f) type) _ _ (length fs) _ (first_place-past fs ys type) past

least_step : (b : Bool) (n more : ℕ) → n ≤ more → (if b then 0 else n + 1) ≤ (if b then 0 else more + 1)
least_step true n more least = omega arith
least_step false n more least = omega arith

-- further fields move no place to the front
pub first_place-least : (xs ys : List Field) (type : List (List ℕ)) → first_place xs type ≤ first_place (xs ++ ys) type
first_place-least [] ys type = omega arith
first_place-least (f ∷ fs) ys type = least_step (pointwise bytes_eq (type_spellings f) type) _ _ (first_place-least fs ys type)

-- the fields of variants, one variant behind the other
abbrev pub fields_in : List Variant → List Field
fields_in variants = flat_map (λ v. v.fields.fields) variants

-- the next variant, and then the others
pub record IsNext (variants : List Variant) (i : ℕ) (type : List (List ℕ)) (before place whole : ℕ) (fields : List Field) : Type 0 where
  pub variant : Variant
  pub inside : i < length variants
  pub is : variant ≡ get_or variants i variant
  pub fields_are : fields ≡ variant.fields.fields
  pub place_is : place ≡ first_place fields type
  pub counted : whole ≡ before + first_place (fields_in (drop i variants)) type

module _ {variants : List Variant} {i : ℕ} {type : List (List ℕ)} {before place whole : ℕ} {fields : List Field} (next : IsNext variants i type before place whole fields) where
  in_parts : whole ≡ before + first_place (fields ++ fields_in (drop (i + 1) variants)) type
  in_parts =
      let parts = drop_more variants i next.variant next.inside ∙ ap (λ v. v ∷ drop (i + 1) variants) (sym next.is) in
      next.counted ∙ ap (λ vs. before + first_place (fields_in vs) type) parts
      ∙ ap (λ own. before + first_place (own ++ fields_in (drop (i + 1) variants)) type) (sym next.fields_are)

  -- where the sum is too large, the place is
  pub place_over : (limit : ℕ) → (before + place < limit → ⊥) → limit ≤ whole
  place_over limit over =
      let least = first_place-least fields (fields_in (drop (i + 1) variants)) type in
      let parts = in_parts in
      let here = next.place_is in
      omega arith

  -- the type is that of a field of the variant
  pub place_found : (sum : ℕ) → sum ≡ before + place → place < length fields → sum ≡ whole
  place_found sum is within =
      let here = next.place_is in
      is ∙ ap (λ n. before + n) (here ∙ sym (first_place-here fields (fields_in (drop (i + 1) variants)) type (omega arith))) ∙ sym in_parts

  -- the type is that of no field of the variant
  pub place_past : (sum : ℕ) → sum ≡ before + place → length fields ≤ place → whole ≡ sum + first_place (fields_in (drop (i + 1) variants)) type
  place_past sum is past =
      let here = next.place_is in
      let behind = first_place-past fields (fields_in (drop (i + 1) variants)) type (omega arith) in
      let parts = in_parts in
      omega arith

-- ---- spellings

and_assoc : (p q r : Bool) → (p && (q && r)) ≡ ((p && q) && r)
and_assoc true q r = refl
and_assoc false q r = refl

and_false : (b : Bool) → (b && false) ≡ false
and_false true = refl
and_false false = refl

in_parts_spelled : (tokens : List Token) (front back : List (List ℕ)) → length front ≤ length tokens
    → pointwise bytes_eq (spellings tokens) (front ++ back)
    ≡ (pointwise bytes_eq (spellings (take (length front) tokens)) front && pointwise bytes_eq (spellings (drop (length front) tokens)) back)
in_parts_spelled tokens [] back enough = refl
in_parts_spelled [] (word ∷ front) back enough = absurd (omega arith)
in_parts_spelled (t ∷ tokens) (word ∷ front) back enough =
    ap (λ (rest : Bool). bytes_eq t.spelling word && rest) (in_parts_spelled tokens front back (omega arith))
    ∙ and_assoc (bytes_eq t.spelling word) (pointwise bytes_eq (spellings (take (length front) tokens)) front) (pointwise bytes_eq (spellings (drop (length front) tokens)) back)

-- tokens are spelled as two lists where their front is spelled as the one and the rest as the other
pub spelled_in_parts : (tokens first rest : List Token) (front back : List (List ℕ)) (n : ℕ) (p q : Bool) → n ≡ length front → n ≤ length tokens → first ≡ take n tokens → rest ≡ drop n tokens
    → p ≡ pointwise bytes_eq (spellings first) front → q ≡ pointwise bytes_eq (spellings rest) back → (p && q) ≡ pointwise bytes_eq (spellings tokens) (front ++ back)
spelled_in_parts tokens first rest front back n p q count enough taken left own others =
    (λ i. own i && others i)
    ∙ (λ i. pointwise bytes_eq (spellings (taken i)) front && pointwise bytes_eq (spellings (left i)) back)
    ∙ (λ i. pointwise bytes_eq (spellings (take (count i) tokens)) front && pointwise bytes_eq (spellings (drop (count i) tokens)) back)
    ∙ sym (in_parts_spelled tokens front back (subst (λ (n : ℕ). n ≤ length tokens) count enough))

-- fewer tokens are not spelled so
pub spelled_short : (tokens : List Token) (front back : List (List ℕ)) → length tokens < length front → pointwise bytes_eq (spellings tokens) (front ++ back) ≡ false
spelled_short [] (word ∷ front) back short = refl
spelled_short (t ∷ tokens) [] back short = absurd (omega arith)
spelled_short [] [] back short = absurd (omega arith)
spelled_short (t ∷ tokens) (word ∷ front) back short =
    ap (λ (rest : Bool). bytes_eq t.spelling word && rest) (spelled_short tokens front back (omega arith)) ∙ and_false (bytes_eq t.spelling word)

-- Why the handler of a trait does not reject a definition.
use Rattle.std.proofs.Common.{◌≡◌, ◌∙◌, ◌⊎◌, ℕ, ◌+◌, ◌<◌, ◌≤◌, ℤ, true, false, List, [], ◌∷◌, ◌++◌, map, take, length, get_or, Result, Ok, Err, inl, inr, refl, sym, ap, subst, arith}
use Rattle.std.specs.Prelude.{IsTrue, IfErr}
use Rattle.std.specs.List.{AllByRecursion, IsDistinct, flat_map}
use Rattle.std.specs.Ordering.{int_eq}
use Rattle.std.specs.Cmp.{signed_Decides}
use Rattle.std.proofs.lemmas.Bool.{true≢false}
use Rattle.std.proofs.lemmas.List.{take_all, take_more}
use Rattle.educe_tokens.specs.declared.error.EduceError.{EduceError}
use Rattle.educe_tokens.specs.declared.span.Span.{Span}
use Rattle.educe_syntax.specs.Attribute.{Attribute}
use Rattle.educe_syntax.specs.DeriveInput.{DeriveInput}
use Rattle.educe_syntax.specs.Few.{shape_variants, variants_of, shape_fields, all_fields}
use Rattle.educe_syntax.specs.Field.{Field}
use Rattle.educe_syntax.specs.Shape.{Shape}
use Rattle.educe_syntax.specs.Shape.TheVariants.{Struct, Enum}
use Rattle.educe_syntax.specs.Variant.{Variant}
use Rattle.educe_bound_traits.specs.Traits.{is_listed, same_trait}
use Rattle.educe_bound_traits.specs.declared.traits.Trait.TheVariants as trait
use Rattle.educe_attrs.specs.Among.{IsAmong}
use Rattle.educe_attrs.specs.Causes.{NoCause, OfStop}
use Rattle.educe_attrs.specs.Stop.{Stop}
use Rattle.educe_attrs.specs.Stop.TheVariants.{Memory, Refused}
use Rattle.educe_attrs.specs.FieldSettings.{FieldSettings}
use Rattle.educe_attrs.specs.Fields.{HaveNoCauses}
use Rattle.educe_attrs.specs.Phases.{OfHandler}
use Rattle.educe_attrs.specs.Places.{OfPlace, OfField}
use Rattle.educe_attrs.specs.Said.{IsPlaceCause, IsSaidCause}
use Rattle.educe_bound_traits.specs.declared.traits.Trait.{Trait}
use Rattle.educe_settings.specs.Cases.{fields_in, shape_cases, variant_attributes, field_attributes}
use Rattle.educe_settings.specs.Handled.{places, IsListsCause, IsReuse, IsRankCause, IsFieldwiseCause, OfCase, OfVariant, OfShape, handling}
use Rattle.educe_settings.specs.Listed.{listed}
use Rattle.educe_settings.specs.Ranks.{AreRanksApart}
use Rattle.educe_settings.specs.Rows.{is_order, is_fieldwise, type_row, variant_row, field_row}
use Rattle.educe_settings.specs.Settings.{Kept, settings_of, kept_by, kept_fields, RanksDiffer, ReusesARank}
use Rattle.educe_settings.proofs.Refused.{of_fieldwise}
use Rattle.educe_settings.proofs.Stops.{stop_weaker}
use Rattle.educe_settings.proofs.Elements.{In, In-all, In-at, In-mapped, In-from_Contains, In-image, in_middle, each_in, each_joined, each_weaker}

-- ---- elements of lists

-- what stands in a list is one of its elements
pub among_in : {X : Type 0} (x : X) (xs : List X) → IsAmong x xs → In x xs
among_in x xs among = subst (In x) (sym among.is) (in_middle among.front among.back x)

-- an element of a list stands in it
pub in_among : {X : Type 0} (x : X) (xs : List X) → In x xs → IsAmong x xs
in_among x [] found = absurd found
in_among x (y ∷ ys) (inl here) = record { front = []; back = ys; is = ap (λ first. first ∷ ys) here }
in_among x (y ∷ ys) (inr later) =
    let rest = in_among x ys later in
    record { front = y ∷ rest.front; back = rest.back; is = ap (λ more. y ∷ more) rest.is }

-- an element of two joined lists is one of the first or of the second
pub in_either : {X : Type 0} (x : X) (xs ys : List X) → In x (xs ++ ys) → In x xs ⊎ In x ys
in_either x [] ys found = inr found
in_either x (y ∷ xs) ys (inl here) = inl (inl here)
in_either x (y ∷ xs) ys (inr later) = elim (in_either x xs ys later) [ inl first ↦ inl (inr first) | inr second ↦ inr second ]

-- an element of several lists, one behind the other, is one of one of them
pub in_one_of : {X Y : Type 0} (f : X → List Y) (xs : List X) (y : Y) → In y (flat_map f xs) → (x : X) × In x xs × In y (f x)
in_one_of f [] y found = absurd found
in_one_of f (x ∷ xs) y found = elim (in_either y (f x) (flat_map f xs) found) [
  | inl here ↦ (x, inl refl, here)
  | inr later ↦ (let rest = in_one_of f xs y later in (rest.0, inr rest.1, rest.2))
]

-- ---- ranks that are apart

-- elements of one rank are one where the ranks are apart
pub one_of_rank : {X : Type 0} (rank : X → ℤ) (xs : List X) (x y : X) → AreRanksApart rank xs → In x xs → In y xs → rank x ≡ rank y → x ≡ y
unfolding IsDistinct
one_of_rank rank [] x y apart has_x has_y same = absurd has_x
one_of_rank rank (z ∷ zs) x y apart (inl here) (inl also) same = sym here ∙ also
one_of_rank rank (z ∷ zs) x y apart (inl here) (inr later) same =
    let differ = In-all (λ r. int_eq (rank z) r ≡ false) (map rank zs) (rank y) apart.0 (In-mapped rank zs y later) in
    absurd (true≢false (sym ((signed_Decides (rank z) (rank y)).1 (ap rank here ∙ same)) ∙ differ))
one_of_rank rank (z ∷ zs) x y apart (inr later) (inl here) same =
    let differ = In-all (λ r. int_eq (rank z) r ≡ false) (map rank zs) (rank x) apart.0 (In-mapped rank zs x later) in
    absurd (true≢false (sym ((signed_Decides (rank z) (rank x)).1 (ap rank here ∙ sym same)) ∙ differ))
one_of_rank rank (z ∷ zs) x y apart (inr later) (inr also) same = one_of_rank rank zs x y apart.1 later also same

-- where the ranks differ no rank is used again
pub reuse_apart : (kept : List Kept) (rank : ℤ) (place : Span) → ReusesARank kept rank place → RanksDiffer kept → ⊥
reuse_apart kept rank place reuses apart =
    let same = one_of_rank (λ (k : Kept). k.rank) kept reuses.first reuses.later apart (In-from_Contains kept reuses.first reuses.first_kept) (In-from_Contains kept reuses.later reuses.later_kept)
    (reuses.first_rank ∙ sym reuses.later_rank) in
    omega (arith, reuses.written, ap (λ (k : Kept). k.place) same)

module _ (which : Trait) (d : DeriveInput) where
  -- fields without a cause, whose ranks differ where they count, are no cause of their case
  pub case_uncaused : (fields : List Field) → HaveNoCauses which (field_row which) (listed d) fields
      → (IsTrue (is_order which) → RanksDiffer (kept_fields which d fields)) → NoCause (OfCase which d fields)
  case_uncaused fields read apart = record {
    none_stands = λ e cause. elim cause [
      | inl (field, among, own) ↦
          (In-all (λ (f : Field). NoCause (OfField which (field_row which) (listed d) f.attrs)) fields field read (among_in field fields among)).none_stands e own
      | inr rank ↦ reuse_apart (kept_fields which d fields) rank.reuse.rank rank.reuse.place rank.reuse.reuses (apart rank.orders)
    ];
  }

  -- a stop for a rank of fields without a cause is one of their case
  rank_stopped : (fields : List Field) → HaveNoCauses which (field_row which) (listed d) fields → (s : Stop) → OfStop (λ _. IsTrue (is_order which)) s
      → OfStop (IsReuse (kept_fields which d fields)) s → OfStop (OfCase which d fields) s
  rank_stopped fields read Memory orders reuse = tt
  rank_stopped fields read (Refused e) orders reuse = inr (record { orders = orders; read = read; reuse = reuse })

  -- what selects the fields of a case by their settings rejects them for a rank
  pub ranks_refused : {T : Type 0} (fields : List Field) (all : List FieldSettings) (r : Result T Stop) → all ≡ map (settings_of which d) fields
      → HaveNoCauses which (field_row which) (listed d) fields → IfErr r (λ s. OfStop (λ _. IsTrue (is_order which)) s)
      → IfErr r (λ s. OfStop (IsReuse (kept_by 0 fields all)) s) → IfErr r (λ s. OfStop (OfCase which d fields) s)
  ranks_refused fields all (Ok x) are read orders reuse = tt
  ranks_refused fields all (Err s) are read orders reuse =
      rank_stopped fields read s orders (subst (λ own. OfStop (IsReuse (kept_by 0 fields own)) s) are reuse)

  -- fields without a cause are no cause of their case, where there are no ranks
  pub case_unranked : (fields : List Field) → is_order which ≡ false → HaveNoCauses which (field_row which) (listed d) fields → NoCause (OfCase which d fields)
  case_unranked fields unranked read = case_uncaused fields read (λ orders. absurd (true≢false (sym orders ∙ unranked)))

  -- a variant without a cause of its own, whose fields have none, has none
  pub variant_uncaused : (variant : Variant) → NoCause (OfPlace which (variant_row which) (listed d) variant.attrs) → NoCause (OfCase which d (fields_in variant))
      → NoCause (OfVariant which d variant)
  variant_uncaused variant of_variant of_case = record { none_stands = λ e cause. elim cause [ inl own ↦ of_variant.none_stands e own | inr case ↦ of_case.none_stands e case ] }

  -- the variants of an enum, none of which has a cause, have none
  pub variants_uncaused : (variants : List Variant) → AllByRecursion (λ variant. NoCause (OfVariant which d variant)) variants → NoCause (OfShape which d (Enum variants))
  variants_uncaused variants each = record {
    none_stands = λ e cause. (In-all (λ variant. NoCause (OfVariant which d variant)) variants cause.0 each (among_in cause.0 variants cause.1)).none_stands e cause.2;
  }

  -- a loop over variants that have none, at one more
  pub variants_more : (variants : List Variant) (i : ℕ) (v variant : Variant) → i < length variants → variant ≡ get_or variants i v
      → AllByRecursion (λ own. NoCause (OfVariant which d own)) (take i variants) → NoCause (OfVariant which d variant)
      → AllByRecursion (λ own. NoCause (OfVariant which d own)) (take (i + 1) variants)
  variants_more variants i v variant less item before here =
      let now : NoCause (OfVariant which d (get_or variants i v)) = subst (λ own. NoCause (OfVariant which d own)) item here in
      subst (AllByRecursion (λ own. NoCause (OfVariant which d own))) (sym (take_more variants i v less))
      (each_joined (λ own. NoCause (OfVariant which d own)) (take i variants) (get_or variants i v ∷ []) before (now, tt))

  -- and at the end
  pub variants_all : (variants : List Variant) (i : ℕ) → length variants ≤ i → AllByRecursion (λ own. NoCause (OfVariant which d own)) (take i variants)
      → NoCause (OfShape which d (Enum variants))
  variants_all variants i all each = variants_uncaused variants (subst (AllByRecursion (λ own. NoCause (OfVariant which d own))) (take_all i variants all) each)

  -- a stop for a variant is one for the enum
  pub variant_stopped : (variants : List Variant) (i : ℕ) (variant : Variant) → i < length variants → variant ≡ get_or variants i variant → (s : Stop)
      → OfStop (OfVariant which d variant) s → OfStop (OfShape which d (Enum variants)) s
  variant_stopped variants i variant less item s stopped =
      let stands = in_among variant variants (In-at variants i variant variant less (sym item)) in
      stop_weaker (OfVariant which d variant) (OfShape which d (Enum variants)) (λ e cause. (variant, stands, cause)) s stopped

  -- ---- causes of places are causes of what stands behind the name

  -- the causes of a variant's attributes are causes of the shape
  variant_behind : (shape : Shape) (variant : Variant) → In variant (shape_variants shape) → (e : EduceError)
      → OfPlace which (variant_row which) (listed d) variant.attrs e → OfShape which d shape e
  variant_behind (Struct shape) variant found e cause = absurd found
  variant_behind (Enum variants) variant found e cause = (variant, in_among variant variants found, inl cause)

  -- the causes of a field's attributes are causes of the shape
  field_behind : (shape : Shape) (field : Field) → In field (shape_fields shape) → (e : EduceError)
      → OfField which (field_row which) (listed d) field.attrs e → OfShape which d shape e
  field_behind (Struct shape) field found e cause = inl (field, in_among field shape.fields found, cause)
  field_behind (Enum variants) field found e cause =
      let (variant, outer, inner) = in_one_of fields_in variants field found in
      (variant, in_among variant variants outer, inr (inl (field, in_among field (fields_in variant) inner, cause)))

  -- the causes of a rank are causes of the shape
  rank_behind : (shape : Shape) (fields : List Field) → In fields (shape_cases shape) → (e : EduceError) → IsRankCause which d fields e → OfShape which d shape e
  rank_behind (Struct shape) fields (inl here) e cause = inr (subst (λ own. IsRankCause which d own e) (sym here) cause)
  rank_behind (Struct shape) fields (inr later) e cause = absurd later
  rank_behind (Enum variants) fields found e cause =
      let (variant, outer, is) = In-image fields_in variants fields found in
      (variant, in_among variant variants outer, inr (inr (subst (λ own. IsRankCause which d own e) (sym is) cause)))

-- ---- lists

-- where no list of a place is rejected, none of a definition is
pub lists_clear : (d : DeriveInput) (e : EduceError) → (IsPlaceCause (listed d) d.attrs e → ⊥) → ((variant : Variant) → In variant (variants_of d) → IsPlaceCause (listed d) variant.attrs e → ⊥)
    → ((field : Field) → In field (all_fields d) → IsPlaceCause (listed d) field.attrs e → ⊥) → IsListsCause d e → ⊥
lists_clear d e own variants fields cause =
    let InPlace : List Attribute → Type 0 = λ attributes. IsPlaceCause (listed d) attributes e in
    elim (among_in cause.attributes (places d) cause.stand) [
      | inl here ↦ own (subst InPlace (sym here) cause.cause)
      | inr later ↦ elim (in_either cause.attributes (variant_attributes d) (field_attributes d) later) [
        | inl of_variant ↦ (
            let (variant, found, is) = In-image (λ (v : Variant). v.attrs) (variants_of d) cause.attributes of_variant in
            variants variant found (subst InPlace (sym is) cause.cause)
            )
        | inr of_field ↦ (
            let (field, found, is) = In-image (λ (f : Field). f.attrs) (all_fields d) cause.attributes of_field in
            fields field found (subst InPlace (sym is) cause.cause)
            )
      ]
    ]

-- ---- why no cause stands

-- what `Clone` is rejected for besides: nothing that the type says of `Copy` is wrong, where that is listed
pub record IsClear (which : Trait) (d : DeriveInput) : Type 0 where
  pub copy : (e : EduceError) → which ≡ trait.Clone → is_listed (listed d) trait.Copy ≡ true → IsSaidCause trait.Copy (type_row trait.Copy d) d.attrs e → ⊥

-- another trait is not rejected for that
pub other_clear : (which : Trait) (d : DeriveInput) → same_trait which trait.Clone ≡ false → IsClear which d
other_clear which d apart = record { copy = λ e clones lists said. true≢false (ap (λ (own : Trait). same_trait own trait.Clone) (sym clones) ∙ apart) }

module _ (which : Trait) (d : DeriveInput) (shape_uncaused : NoCause (OfShape which d d.shape)) where
  field_uncaused : (field : Field) → In field (all_fields d) → NoCause (OfField which (field_row which) (listed d) field.attrs)
  field_uncaused field found = record { none_stands = λ e cause. shape_uncaused.none_stands e (field_behind which d d.shape field found e cause) }

  -- no field has a cause
  pub fields_uncaused : HaveNoCauses which (field_row which) (listed d) (all_fields d)
  fields_uncaused =
      each_weaker (λ field. In field (all_fields d)) (λ (field : Field). NoCause (OfField which (field_row which) (listed d) field.attrs))
      field_uncaused (all_fields d) (each_in (all_fields d))

  module _ (type_uncaused : NoCause (OfPlace which (type_row which d) (listed d) d.attrs)) where
    -- no list of a place has a cause
    lists_uncaused : (e : EduceError) → IsListsCause d e → ⊥
    lists_uncaused e cause =
        lists_clear d e (λ found. type_uncaused.none_stands e (inl found)) (λ variant found own. shape_uncaused.none_stands e (variant_behind which d d.shape variant found e (inl own)))
        (λ field found own. (field_uncaused field found).none_stands e (inl own)) cause

    -- the trait has no cause, where it is listed
    own_uncaused : IsClear which d → is_listed (listed d) which ≡ true → (e : EduceError) → IsFieldwiseCause which d e → ⊥
    own_uncaused clear is_one e (IsFieldwiseCause.by_type said) = type_uncaused.none_stands e (inr (is_one, said))
    own_uncaused clear is_one e (IsFieldwiseCause.by_variant variant among said) =
        shape_uncaused.none_stands e (variant_behind which d d.shape variant (among_in variant (variants_of d) among) e (inr (is_one, said)))
    own_uncaused clear is_one e (IsFieldwiseCause.by_field field among said) =
        (field_uncaused field (among_in field (all_fields d) among)).none_stands e (inr said)
    own_uncaused clear is_one e (IsFieldwiseCause.by_rank fields among cause) =
        shape_uncaused.none_stands e (rank_behind which d d.shape fields (among_in fields (shape_cases d.shape) among) e cause)
    own_uncaused clear is_one e (IsFieldwiseCause.by_copy clones lists said) = clear.copy e clones lists said

    -- the handler has no cause, where its trait is listed
    pub handler_uncaused : IsClear which d → IsTrue (is_fieldwise which) → is_listed (listed d) which ≡ true → NoCause (OfHandler (handling d) which)
    handler_uncaused clear fieldwise is_one = record {
      none_stands = λ e cause. elim cause [
        | inl in_lists ↦ lists_uncaused e in_lists
        | inr own ↦ own_uncaused clear is_one e (of_fieldwise which d e fieldwise own)
      ];
    }

-- The settings of a trait at a field, as they are read.
use Rattle.std.proofs.Common.{◌≡◌, List, refl, sym, subst, ◌∙◌, ap, Option, Some, None, Result, Ok, Err, inl, inr}
use Rattle.std.specs.Prelude.{IfOk, IfErr}
use Rattle.std.specs.Result.{result_unwrap_or}
use Rattle.educe_tokens.specs.declared.error.EduceError.{EduceError}
use Rattle.educe_bound_traits.specs.declared.traits.Trait.{Trait}
use Rattle.educe_syntax.specs.Attribute.{Attribute}
use Rattle.educe_syntax.specs.Meta.{Meta}
use Rattle.educe_attrs_values.specs.Chains.{Gives, and_then}
use Rattle.educe_attrs_values.specs.declared.stop.Stop.{Stop}
use Rattle.educe_attrs_values.specs.declared.stop.Stop.TheVariants.{Memory, Refused}
use Rattle.educe_attrs_rows.specs.declared.row.Row.{Row}
use Rattle.educe_attrs_rows.specs.declared.values.Values.{Values}
use Rattle.educe_attrs_rows.specs.Settings.{no_values}
use Rattle.educe_attrs_places.specs.declared.place.FieldSettings.{FieldSettings}
use Rattle.educe_attrs_places.specs.Causes.{OfStop, NoCause}
use Rattle.educe_attrs_places.specs.Lists.{AreMetas}
use Rattle.educe_attrs_places.specs.Said.{listed_metas, read_one, IsUnsaid, SaysThere, IsSaidCause}
use Rattle.educe_attrs_places.specs.Places.{fallback, own_settings, taken, or_taken, read_other, or_other, read_among, read_field, field_settings, IsFieldSaid, IsFieldCause, OfField}
use Rattle.educe_attrs_places.proofs.Decided.{IsDecided, field_decided}
use Rattle.educe_attrs_places.proofs.SaidLaws.{said_cause, said_uncaused, says_there, is_unsaid, not_unsaid, said_read, AreListed, metas_listed, said_listed, listed_cause, listed_uncaused}
use Rattle.educe_attrs_rows.proofs.Chained.{ok_one, err_one, chained, mapped, mapped_err}

module _ (which : Trait) (row : Row) (listed : List Trait) (attributes : List Attribute) where
  module _ (found : List Meta) (l : AreListed listed attributes found) where
    abbrev are : AreMetas attributes found
    are = l.are

    -- ---- causes

    other_err : read_one which row found None ≡ Ok None → (e : EduceError) (o : Option Trait) → fallback which listed ≡ o → read_other which row found o ≡ Err (Refused e) → IsFieldCause which row listed attributes e
    other_err none e None is h = absurd (cc)
    other_err none e (Some other) is h =
        IsFieldCause.other_meta other is (is_unsaid which row attributes found are none)
        (said_cause other row attributes found are e (mapped_err (or_taken which) (read_one other row found None) (Refused e) h))

    among_err_by : (e : EduceError) (r : Result (Option Values) Stop) → read_one which row found None ≡ r → and_then (or_other which row listed found) r ≡ Err (Refused e) → IsFieldCause which row listed attributes e
    among_err_by e (Ok (Some v)) is h = absurd (cc)
    among_err_by e (Ok None) is h = other_err is e (fallback which listed) refl h
    among_err_by e (Err s) is h =
        let cause = said_cause which row attributes found are e (is ∙ ap Err (err_one h)) in
        IsFieldCause.own_meta (said_listed listed attributes found l which row e cause) cause

    among_cause : (e : EduceError) → read_among which row listed found ≡ Err (Refused e) → IsFieldCause which row listed attributes e
    among_cause e h = among_err_by e (read_one which row found None) refl h

    other_uncaused : (v : FieldSettings) (o : Option Values) → read_one which row found None ≡ Ok o → or_other which row listed found o ≡ Ok v → (e : EduceError) (other : Trait) → fallback which listed ≡ Some other
        → IsUnsaid which attributes → IsSaidCause other row attributes e → ⊥
    other_uncaused v (Some w) read h e other is none cause = not_unsaid which row attributes found are w read none
    other_uncaused v None read h e other is none cause =
        let r = mapped (or_taken which) (read_one other row found None) v (sym (ap (read_other which row found) is) ∙ h) in
        said_uncaused other row attributes found are r.0 r.1 e cause

    among_uncaused : (v : FieldSettings) → read_among which row listed found ≡ Ok v → (e : EduceError) → IsFieldCause which row listed attributes e → ⊥
    among_uncaused v h e (IsFieldCause.own_meta is_there cause) =
        let r = chained (or_other which row listed found) (read_one which row found None) v h in
        said_uncaused which row attributes found are r.0 r.1 e cause
    among_uncaused v h e (IsFieldCause.other_meta other is none cause) =
        let r = chained (or_other which row listed found) (read_one which row found None) v h in
        other_uncaused v r.0 r.1 r.2 e other is none cause

    -- ---- what is said

    no_fallback : fallback which listed ≡ None → (other : Trait) → fallback which listed ≡ Some other → IsUnsaid other attributes
    no_fallback none other is = let bad : None ≡ Some other = sym none ∙ is in absurd (cc)

    one_fallback : (other : Trait) → fallback which listed ≡ Some other → IsUnsaid other attributes → (o : Trait) → fallback which listed ≡ Some o → IsUnsaid o attributes
    one_fallback other is unsaid o o_is =
        let both : Some other ≡ Some o = sym is ∙ o_is in
        let same : other ≡ o = cc in
        subst (λ t. IsUnsaid t attributes) same unsaid

    taken_said : IsUnsaid which attributes → (other : Trait) → fallback which listed ≡ Some other → (v : FieldSettings) (o : Option Values) → read_one other row found None ≡ Ok o → or_taken which o ≡ v
        → IsFieldSaid which row listed attributes v
    taken_said none other is v None h v_is =
        subst (IsFieldSaid which row listed attributes) v_is (IsFieldSaid.none_said none (one_fallback other is (is_unsaid other row attributes found are h)))
    taken_said none other is v (Some w) h v_is =
        subst (IsFieldSaid which row listed attributes) v_is (IsFieldSaid.other_said other w is none (says_there other row attributes found are w h))

    other_said : IsUnsaid which attributes → (v : FieldSettings) (o : Option Trait) → fallback which listed ≡ o → read_other which row found o ≡ Ok v → IsFieldSaid which row listed attributes v
    other_said none v None is h = subst (IsFieldSaid which row listed attributes) (ok_one h) (IsFieldSaid.none_said none (no_fallback is))
    other_said none v (Some other) is h =
        let r = mapped (or_taken which) (read_one other row found None) v h in
        taken_said none other is v r.0 r.1 r.2

    said_as : (v : FieldSettings) (o : Option Values) → read_one which row found None ≡ Ok o → or_other which row listed found o ≡ Ok v → IsFieldSaid which row listed attributes v
    said_as v (Some w) read h = subst (IsFieldSaid which row listed attributes) (ok_one h) (IsFieldSaid.own_said w (says_there which row attributes found are w read))
    said_as v None read h = other_said (is_unsaid which row attributes found are read) v (fallback which listed) refl h

    among_said : (v : FieldSettings) → read_among which row listed found ≡ Ok v → IsFieldSaid which row listed attributes v
    among_said v h =
        let r = chained (or_other which row listed found) (read_one which row found None) v h in
        said_as v r.0 r.1 r.2

    -- ---- nothing else is said

    own_only : (w : FieldSettings) (o : Option Values) → read_one which row found None ≡ Ok o → or_other which row listed found o ≡ Ok w → (v : Values) → SaysThere which row attributes v → own_settings v ≡ w
    own_only w o read h v says = ok_one (sym (ap (or_other which row listed found) (said_read which row attributes found are o read v says)) ∙ h)

    -- where the trait is not said, what is read is that of the other order
    not_own : (w : FieldSettings) (o : Option Values) → read_one which row found None ≡ Ok o → or_other which row listed found o ≡ Ok w → IsUnsaid which attributes
        → read_other which row found (fallback which listed) ≡ Ok w
    not_own w None read h unsaid = h
    not_own w (Some v) read h unsaid = absurd (not_unsaid which row attributes found are v read unsaid)

    other_only : (w : FieldSettings) (other : Trait) → read_other which row found (Some other) ≡ Ok w → (v : Values) → SaysThere other row attributes v → taken which v ≡ w
    other_only w other h v says =
        let r = mapped (or_taken which) (read_one other row found None) w h in
        ap (or_taken which) (sym (said_read other row attributes found are r.0 r.1 v says)) ∙ r.2

    none_taken : (other : Trait) (o : Option Values) → read_one other row found None ≡ Ok o → IsUnsaid other attributes → or_taken which o ≡ own_settings no_values
    none_taken other None read unsaid = refl
    none_taken other (Some v) read unsaid = absurd (not_unsaid other row attributes found are v read unsaid)

    none_only : (w : FieldSettings) (o : Option Trait) → fallback which listed ≡ o → read_other which row found o ≡ Ok w → ((other : Trait) → fallback which listed ≡ Some other → IsUnsaid other attributes)
        → own_settings no_values ≡ w
    none_only w None is h unsaid = ok_one h
    none_only w (Some other) is h unsaid =
        let r = mapped (or_taken which) (read_one other row found None) w h in
        sym (none_taken other r.0 r.1 (unsaid other is)) ∙ r.2

    among_only : (w : FieldSettings) → read_among which row listed found ≡ Ok w → (v : FieldSettings) → IsFieldSaid which row listed attributes v → v ≡ w
    among_only w h v is = by_said v is
      where
        r : (o : Option Values) × (read_one which row found None ≡ Ok o) × (or_other which row listed found o ≡ Ok w)
        r = chained (or_other which row listed found) (read_one which row found None) w h

        by_said : (v : FieldSettings) → IsFieldSaid which row listed attributes v → v ≡ w
        by_said _ (IsFieldSaid.own_said v says) = own_only w r.0 r.1 r.2 v says
        by_said _ (IsFieldSaid.other_said other v other_is unsaid says) =
            other_only w other (ap (read_other which row found) (sym other_is) ∙ not_own w r.0 r.1 r.2 unsaid) v says
        by_said _ (IsFieldSaid.none_said unsaid others) = none_only w (fallback which listed) refl (not_own w r.0 r.1 r.2 unsaid) others

  -- ---- the whole place

  field_by : (e : EduceError) (r : Result (List Meta) Stop) → listed_metas listed attributes ≡ r → and_then (read_among which row listed) r ≡ Err (Refused e) → OfField which row listed attributes e
  field_by e (Ok found) is h = inr (among_cause found (metas_listed listed attributes found is) e h)
  field_by e (Err s) is h = inl (listed_cause listed attributes e (is ∙ ap Err (err_one h)))

  -- a rejection has a cause
  pub field_cause : (e : EduceError) → read_field which row listed attributes ≡ Err (Refused e) → OfField which row listed attributes e
  unfolding read_field
  field_cause e h = field_by e (listed_metas listed attributes) refl h

  -- where something is read, no cause stands
  pub field_uncaused : (v : FieldSettings) → read_field which row listed attributes ≡ Ok v → NoCause (OfField which row listed attributes)
  unfolding read_field
  field_uncaused v h =
      let metas = chained (read_among which row listed) (listed_metas listed attributes) v h in
      let l = metas_listed listed attributes metas.0 metas.1 in
      record {
        none_stands = λ e cause. elim cause [
          | inl list ↦ listed_uncaused listed attributes metas.0 l e list
          | inr of ↦ among_uncaused metas.0 l v metas.2 e of
        ];
      }

  -- what is read is what the metas say
  pub field_said : (v : FieldSettings) → read_field which row listed attributes ≡ Ok v → IsFieldSaid which row listed attributes v
  unfolding read_field
  field_said v h =
      let metas = chained (read_among which row listed) (listed_metas listed attributes) v h in
      among_said metas.0 (metas_listed listed attributes metas.0 metas.1) v metas.2

  -- what is read is the settings
  pub field_is : (v : FieldSettings) → read_field which row listed attributes ≡ Ok v → v ≡ field_settings which row listed attributes
  unfolding field_settings
  field_is v h = sym (ap (λ r. result_unwrap_or r (own_settings no_values)) h)

  -- ---- the settings

  read_by : NoCause (OfField which row listed attributes) → (r : Result FieldSettings Stop) → read_field which row listed attributes ≡ r → IsDecided r
      → read_field which row listed attributes ≡ Ok (field_settings which row listed attributes)
  read_by none (Ok v) is decided = is ∙ ap Ok (field_is v is)
  read_by none (Err Memory) is decided = absurd decided
  read_by none (Err (Refused e)) is decided = absurd (none.none_stands e (field_cause e is))

  -- where no cause stands, they are read
  settings_read : NoCause (OfField which row listed attributes) → read_field which row listed attributes ≡ Ok (field_settings which row listed attributes)
  settings_read none = read_by none (read_field which row listed attributes) refl (field_decided listed which row attributes)

  -- where no cause stands, the settings of a field are what the metas say
  pub settings_said : NoCause (OfField which row listed attributes) → IsFieldSaid which row listed attributes (field_settings which row listed attributes)
  settings_said none = field_said (field_settings which row listed attributes) (settings_read none)

  only_read : (w : FieldSettings) → read_field which row listed attributes ≡ Ok w → (v : FieldSettings) → IsFieldSaid which row listed attributes v → v ≡ w
  unfolding read_field
  only_read w h v is =
      let metas = chained (read_among which row listed) (listed_metas listed attributes) w h in
      among_only metas.0 (metas_listed listed attributes metas.0 metas.1) w metas.2 v is

  -- where no cause stands, the metas say nothing but the settings of a field
  pub settings_only : NoCause (OfField which row listed attributes) → (v : FieldSettings) → IsFieldSaid which row listed attributes v → v ≡ field_settings which row listed attributes
  settings_only none v is = only_read (field_settings which row listed attributes) (settings_read none) v is

  -- ---- the answer of a function that reads it

  pub answer_settings : (r : Result FieldSettings Stop) → Gives Memory (read_field which row listed attributes) r → IfOk r (λ v. v ≡ field_settings which row listed attributes)
  answer_settings (Ok v) h = field_is v h
  answer_settings (Err s) h = tt

  pub answer_said : (r : Result FieldSettings Stop) → Gives Memory (read_field which row listed attributes) r → IfOk r (λ v. IsFieldSaid which row listed attributes v)
  answer_said (Ok v) h = field_said v h
  answer_said (Err s) h = tt

  pub answer_cause : (r : Result FieldSettings Stop) → Gives Memory (read_field which row listed attributes) r → IfErr r (λ s. OfStop (OfField which row listed attributes) s)
  answer_cause (Ok v) h = tt
  answer_cause (Err Memory) h = tt
  answer_cause (Err (Refused e)) h = field_cause e (h (λ same. cc))

  pub answer_uncaused : (r : Result FieldSettings Stop) → Gives Memory (read_field which row listed attributes) r → IfOk r (λ v. NoCause (OfField which row listed attributes))
  answer_uncaused (Ok v) h = field_uncaused v h
  answer_uncaused (Err s) h = tt

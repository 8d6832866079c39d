-- The settings of a trait at a type or a variant, as they are read.
use Rattle.std.proofs.Common.{◌≡◌, List, refl, sym, subst, ◌∙◌, ap, Option, Some, None, Result, Ok, Err, inl, inr}
use Rattle.std.specs.Prelude.{IfOk, IfErr}
use Rattle.std.specs.Result.{result_unwrap_or}
use Rattle.educe_tokens.specs.declared.error.EduceError.{EduceError}
use Rattle.educe_bound_traits.specs.declared.traits.Trait.{Trait}
use Rattle.educe_syntax.specs.Attribute.{Attribute}
use Rattle.educe_syntax.specs.Meta.{Meta}
use Rattle.educe_attrs_values.specs.Chains.{Gives, and_then, map_ok}
use Rattle.educe_attrs_values.specs.declared.stop.Stop.{Stop}
use Rattle.educe_attrs_values.specs.declared.stop.Stop.TheVariants.{Memory, Refused}
use Rattle.educe_attrs_rows.specs.declared.row.Row.{Row}
use Rattle.educe_attrs_rows.specs.declared.values.Values.{Values}
use Rattle.educe_attrs_rows.specs.Settings.{no_values}
use Rattle.educe_attrs_places.specs.Causes.{OfStop, NoCause}
use Rattle.educe_attrs_places.specs.Lists.{AreMetas}
use Rattle.educe_attrs_places.specs.Said.{listed_metas, read_one}
use Rattle.educe_attrs_places.specs.Places.{or_nothing, read_place, place_settings, IsSaid, OfPlace}
use Rattle.educe_attrs_places.proofs.Decided.{IsDecided, place_decided}
use Rattle.educe_attrs_places.proofs.SaidLaws.{said_cause, said_uncaused, says_there, is_unsaid, not_unsaid, said_read, metas_listed, said_listed, listed_cause, listed_uncaused}
use Rattle.educe_attrs_rows.proofs.Chained.{err_one, chained, mapped, mapped_err}

module _ (which : Trait) (row : Row) (listed : List Trait) (attributes : List Attribute) where
  abbrev of_metas : List Meta → Result Values Stop
  of_metas found = map_ok or_nothing (read_one which row found None)

  place_by : (e : EduceError) (r : Result (List Meta) Stop) → listed_metas listed attributes ≡ r → and_then of_metas r ≡ Err (Refused e) → OfPlace which row listed attributes e
  place_by e (Ok found) is h =
      let l = metas_listed listed attributes found is in
      let cause = said_cause which row attributes found l.are e (mapped_err or_nothing (read_one which row found None) (Refused e) h) in
      inr (said_listed listed attributes found l which row e cause, cause)
  place_by e (Err s) is h = inl (listed_cause listed attributes e (is ∙ ap Err (err_one h)))

  -- a rejection has a cause
  pub place_cause : (e : EduceError) → read_place which row listed attributes ≡ Err (Refused e) → OfPlace which row listed attributes e
  unfolding read_place
  place_cause e h = place_by e (listed_metas listed attributes) refl h

  -- where something is read, no cause stands
  pub place_uncaused : (v : Values) → read_place which row listed attributes ≡ Ok v → NoCause (OfPlace which row listed attributes)
  unfolding read_place
  place_uncaused v h =
      let metas = chained of_metas (listed_metas listed attributes) v h in
      let l = metas_listed listed attributes metas.0 metas.1 in
      let said = mapped or_nothing (read_one which row metas.0 None) v metas.2 in
      record {
        none_stands = λ e cause. elim cause [
          | inl list ↦ listed_uncaused listed attributes metas.0 l e list
          | inr own ↦ said_uncaused which row attributes metas.0 l.are said.0 said.1 e own.1
        ];
      }

  said_by : (found : List Meta) → AreMetas attributes found → (o : Option Values) (v : Values) → read_one which row found None ≡ Ok o → or_nothing o ≡ v → IsSaid which row attributes v
  said_by found are None v h is = subst (IsSaid which row attributes) is (IsSaid.by_none (is_unsaid which row attributes found are h))
  said_by found are (Some w) v h is = subst (IsSaid which row attributes) is (IsSaid.by_meta w (says_there which row attributes found are w h))

  -- what is read is what the metas say
  pub place_said : (v : Values) → read_place which row listed attributes ≡ Ok v → IsSaid which row attributes v
  unfolding read_place
  place_said v h =
      let metas = chained of_metas (listed_metas listed attributes) v h in
      let l = metas_listed listed attributes metas.0 metas.1 in
      let said = mapped or_nothing (read_one which row metas.0 None) v metas.2 in
      said_by metas.0 l.are said.0 v said.1 said.2

  -- what is read is the settings
  pub place_is : (v : Values) → read_place which row listed attributes ≡ Ok v → v ≡ place_settings which row listed attributes
  unfolding place_settings
  place_is v h = sym (ap (λ r. result_unwrap_or r no_values) h)

  -- ---- the settings

  read_by : NoCause (OfPlace which row listed attributes) → (r : Result Values Stop) → read_place which row listed attributes ≡ r → IsDecided r
      → read_place which row listed attributes ≡ Ok (place_settings which row listed attributes)
  read_by none (Ok v) is decided = is ∙ ap Ok (place_is v is)
  read_by none (Err Memory) is decided = absurd decided
  read_by none (Err (Refused e)) is decided = absurd (none.none_stands e (place_cause e is))

  -- where no cause stands, they are read
  settings_read : NoCause (OfPlace which row listed attributes) → read_place which row listed attributes ≡ Ok (place_settings which row listed attributes)
  settings_read none = read_by none (read_place which row listed attributes) refl (place_decided listed which row attributes)

  -- where no cause stands, the settings of a place are what the metas say
  pub settings_said : NoCause (OfPlace which row listed attributes) → IsSaid which row attributes (place_settings which row listed attributes)
  settings_said none = place_said (place_settings which row listed attributes) (settings_read none)

  one_said : (found : List Meta) → AreMetas attributes found → (o : Option Values) → read_one which row found None ≡ Ok o → (v : Values) → IsSaid which row attributes v → v ≡ or_nothing o
  one_said found are o h v (IsSaid.by_meta _ says) = ap or_nothing (sym (said_read which row attributes found are o h v says))
  one_said found are None h _ (IsSaid.by_none unsaid) = refl
  one_said found are (Some w) h _ (IsSaid.by_none unsaid) = absurd (not_unsaid which row attributes found are w h unsaid)

  only_read : (w : Values) → read_place which row listed attributes ≡ Ok w → (v : Values) → IsSaid which row attributes v → v ≡ w
  unfolding read_place
  only_read w h v is =
      let metas = chained of_metas (listed_metas listed attributes) w h in
      let l = metas_listed listed attributes metas.0 metas.1 in
      let said = mapped or_nothing (read_one which row metas.0 None) w metas.2 in
      one_said metas.0 l.are said.0 said.1 v is ∙ said.2

  -- where no cause stands, the metas say nothing but the settings of a place
  pub settings_only : NoCause (OfPlace which row listed attributes) → (v : Values) → IsSaid which row attributes v → v ≡ place_settings which row listed attributes
  settings_only none v is = only_read (place_settings which row listed attributes) (settings_read none) v is

  -- ---- the answer of a function that reads it

  pub answer_settings : (r : Result Values Stop) → Gives Memory (read_place which row listed attributes) r → IfOk r (λ v. v ≡ place_settings which row listed attributes)
  answer_settings (Ok v) h = place_is v h
  answer_settings (Err s) h = tt

  pub answer_said : (r : Result Values Stop) → Gives Memory (read_place which row listed attributes) r → IfOk r (λ v. IsSaid which row attributes v)
  answer_said (Ok v) h = place_said v h
  answer_said (Err s) h = tt

  pub answer_cause : (r : Result Values Stop) → Gives Memory (read_place which row listed attributes) r → IfErr r (λ s. OfStop (OfPlace which row listed attributes) s)
  answer_cause (Ok v) h = tt
  answer_cause (Err Memory) h = tt
  answer_cause (Err (Refused e)) h = place_cause e (h (λ same. cc))

  pub answer_uncaused : (r : Result Values Stop) → Gives Memory (read_place which row listed attributes) r → IfOk r (λ v. NoCause (OfPlace which row listed attributes))
  answer_uncaused (Ok v) h = place_uncaused v h
  answer_uncaused (Err s) h = tt

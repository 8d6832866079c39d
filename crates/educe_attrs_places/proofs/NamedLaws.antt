-- Whether the metas of a place are of listed traits.
use Rattle.std.proofs.Common.{◌≡◌, List, [], ◌∷◌, refl, sym, subst, ◌∙◌, ap, Bool, true, false, Option, Some, None, Result, Ok, Err, ◌⊎◌, inl, inr}
use Rattle.std.specs.Prelude.{if◌then◌else◌}
use Rattle.educe_tokens.specs.declared.error.EduceError.{EduceError}
use Rattle.educe_tokens.specs.declared.error.Kind.TheVariants.{UnsupportedTrait, TraitNotUsed}
use Rattle.educe_bound_traits.specs.declared.traits.Trait.{Trait}
use Rattle.educe_bound_traits.specs.Named.{trait_named}
use Rattle.educe_bound_traits.specs.Traits.{is_listed}
use Rattle.educe_bound_traits.proofs.Apart.{same_is}
use Rattle.educe_syntax.specs.Attribute.{Attribute}
use Rattle.educe_syntax.specs.Meta.{Meta}
use Rattle.educe_syntax.specs.Meta.TheVariants as said
use Rattle.educe_syntax.specs.MetaPath.{MetaPath}
use Rattle.educe_attrs_values.specs.Chains.{and_then}
use Rattle.educe_attrs_values.specs.declared.stop.Stop.{Stop}
use Rattle.educe_attrs_values.specs.declared.stop.Stop.TheVariants.{Refused}
use Rattle.educe_attrs_values.specs.Refusals.{at_name}
use Rattle.educe_attrs_rows.specs.Among.{IsAmong}
use Rattle.educe_attrs_values.specs.Metas.{IsNamed}
use Rattle.educe_attrs_values.specs.Words.{path_of}
use Rattle.educe_attrs_places.specs.Lists.{AreMetas}
use Rattle.educe_attrs_places.specs.Named.{is_trait, is_of, unless_listed, checked_path, checked, all_checked}
use Rattle.educe_attrs_places.specs.Said.{IsPlaceCause}
use Rattle.educe_attrs_places.proofs.ListLaws.{lists_uncaused, name_met, name_in}
use Rattle.educe_attrs_rows.proofs.Among.{among_none, among_first, among_more, among_cases}
use Rattle.educe_attrs_rows.proofs.Chained.{chained, refused_one}

module _ (listed : List Trait) where
  -- why the name of a trait is rejected
  abbrev NameErr : MetaPath → EduceError → Type 0
  NameErr path e =
      ((trait_named path ≡ None) × (at_name UnsupportedTrait path ≡ e))
      ⊎ ((which : Trait) × (trait_named path ≡ Some which) × (is_listed listed which ≡ false) × (at_name TraitNotUsed path ≡ e))

  abbrev listed_or : MetaPath → Bool → Result (Unit {0}) Stop
  listed_or path b = if b then Ok tt else Err (Refused (at_name TraitNotUsed path))

  listed_err : (path : MetaPath) (which : Trait) → trait_named path ≡ Some which → (e : EduceError) (b : Bool) → is_listed listed which ≡ b
      → listed_or path b ≡ Err (Refused e) → NameErr path e
  listed_err path which named e true is h = absurd (cc)
  listed_err path which named e false is h = inr (which, named, is, refused_one h)

  name_err : (path : MetaPath) (e : EduceError) (o : Option Trait) → trait_named path ≡ o → unless_listed listed path o ≡ Err (Refused e) → NameErr path e
  name_err path e None is h = inl (is, refused_one h)
  name_err path e (Some which) is h = listed_err path which is e (is_listed listed which) refl h

  abbrev CheckErr : Meta → EduceError → Type 0
  CheckErr m e = (path : MetaPath) × IsNamed m × (path_of m ≡ Some path) × NameErr path e

  check_err : (m : Meta) (e : EduceError) → checked listed m ≡ Err (Refused e) → CheckErr m e
  check_err (said.Word path) e h = (path, tt, refl, name_err path e (trait_named path) refl h)
  check_err (said.List path written place) e h = (path, tt, refl, name_err path e (trait_named path) refl h)
  check_err (said.NameValue path x place) e h = (path, tt, refl, name_err path e (trait_named path) refl h)
  check_err (said.Doc t) e h = absurd (cc)
  check_err (said.Unread path written place) e h = absurd (cc)

  checks_err_by : (m : Meta) (ms : List Meta) (e : EduceError) (r : Result (Unit {0}) Stop) → checked listed m ≡ r → and_then (λ _. all_checked listed ms) r ≡ Err (Refused e)
      → (all_checked listed ms ≡ Err (Refused e) → (n : Meta) × IsAmong n ms × CheckErr n e) → (n : Meta) × IsAmong n (m ∷ ms) × CheckErr n e
  checks_err_by m ms e (Ok u) is h later = let r = later h in (r.0, among_more m r.0 ms r.1, r.2)
  checks_err_by m ms e (Err s) is h later = (m, among_first m ms, check_err m e (is ∙ h))

  checks_err : (ms : List Meta) (e : EduceError) → all_checked listed ms ≡ Err (Refused e) → (m : Meta) × IsAmong m ms × CheckErr m e
  checks_err [] e h = absurd (cc)
  checks_err (m ∷ ms) e h = checks_err_by m ms e (checked listed m) refl h (λ k. checks_err ms e k)

  -- where all are checked, each is
  checks_ok : (ms : List Meta) (u : Unit {0}) → all_checked listed ms ≡ Ok u → (m : Meta) → IsAmong m ms → (w : Unit {0}) × (checked listed m ≡ Ok w)
  checks_ok [] u h m among = absurd (among_none m among)
  checks_ok (n ∷ ms) u h m among =
      let r = chained (λ _. all_checked listed ms) (checked listed n) u h in
      elim (among_cases m n ms among) [
        | inl same ↦ (r.0, subst (λ n. checked listed n ≡ Ok r.0) same r.1)
        | inr later ↦ checks_ok ms u r.2 m later
      ]

  named_checked : (m : Meta) (path : MetaPath) (w : Unit {0}) → IsNamed m → path_of m ≡ Some path → checked listed m ≡ Ok w → checked_path listed path ≡ Ok w
  named_checked (said.Word p) path w named is h = let same : p ≡ path = cc in subst (λ p. checked_path listed p ≡ Ok w) same h
  named_checked (said.List p written place) path w named is h = let same : p ≡ path = cc in subst (λ p. checked_path listed p ≡ Ok w) same h
  named_checked (said.NameValue p x place) path w named is h = let same : p ≡ path = cc in subst (λ p. checked_path listed p ≡ Ok w) same h
  named_checked (said.Doc t) path w named is h = absurd named
  named_checked (said.Unread p written place) path w named is h = absurd named

  not_unsupported : (path : MetaPath) (w : Unit {0}) → checked_path listed path ≡ Ok w → trait_named path ≡ None → ⊥
  not_unsupported path w h none = let bad : ◌≡◌ {A = Result (Unit {0}) Stop} (Err (Refused (at_name UnsupportedTrait path))) (Ok w) = sym (ap (unless_listed listed path) none) ∙ h in cc

  not_unused : (path : MetaPath) (w : Unit {0}) (which : Trait) → checked_path listed path ≡ Ok w → trait_named path ≡ Some which → is_listed listed which ≡ false → ⊥
  not_unused path w which h named unused =
      let bad : ◌≡◌ {A = Result (Unit {0}) Stop} (Err (Refused (at_name TraitNotUsed path))) (Ok w) =
      sym (ap (unless_listed listed path) named ∙ ap (listed_or path) unused) ∙ h in
      cc

  -- ---- the traits that are listed

  passed : (path : MetaPath) (which : Trait) (w : Unit {0}) (b : Bool) → is_listed listed which ≡ b → listed_or path b ≡ Ok w → is_listed listed which ≡ true
  passed path which w true is h = is
  passed path which w false is h = absurd (cc)

  -- a name that is checked is that of a listed trait
  name_listed : (path : MetaPath) (which : Trait) (w : Unit {0}) (o : Option Trait) → is_trait which o ≡ true → unless_listed listed path o ≡ Ok w → is_listed listed which ≡ true
  name_listed path which w None of h = absurd (cc)
  name_listed path which w (Some other) of h = subst (λ t. is_listed listed t ≡ true) (sym ((same_is which other).0 of)) (passed path other w (is_listed listed other) refl h)

  -- a meta that is checked is of a listed trait
  meta_listed : (m : Meta) (which : Trait) (w : Unit {0}) → is_of which m ≡ true → checked listed m ≡ Ok w → is_listed listed which ≡ true
  meta_listed (said.Word path) which w of h = name_listed path which w (trait_named path) of h
  meta_listed (said.List path written place) which w of h = name_listed path which w (trait_named path) of h
  meta_listed (said.NameValue path x place) which w of h = name_listed path which w (trait_named path) of h
  meta_listed (said.Doc t) which w of h = absurd (cc)
  meta_listed (said.Unread path written place) which w of h = absurd (cc)

  -- where all are checked, each is of a listed trait
  pub each_listed : (ms : List Meta) (u : Unit {0}) → all_checked listed ms ≡ Ok u → (m : Meta) → IsAmong m ms → (which : Trait) → is_of which m ≡ true → is_listed listed which ≡ true
  each_listed ms u h m among which of = let c = checks_ok ms u h m among in meta_listed m which c.0 of c.1

  -- ---- causes

  -- a meta of the place that is rejected is a cause
  pub names_cause : (attributes : List Attribute) (found : List Meta) → AreMetas attributes found → (e : EduceError) → all_checked listed found ≡ Err (Refused e) → IsPlaceCause listed attributes e
  names_cause attributes found are e h =
      let r = checks_err found e h in
      let named = name_in attributes found are r.0 r.1 r.2.0 r.2.1 r.2.2 in
      elim r.2.3 [
        | inl none ↦ subst (IsPlaceCause listed attributes) none.1 (IsPlaceCause.unsupported r.2.0 named none.0)
        | inr unused ↦ subst (IsPlaceCause listed attributes) unused.3 (IsPlaceCause.not_used r.2.0 unused.0 named unused.1 unused.2)
      ]

  -- where the metas of a place are checked, no cause of its lists stands
  pub no_place_cause : (attributes : List Attribute) (found : List Meta) → AreMetas attributes found → (u : Unit {0}) → all_checked listed found ≡ Ok u → (e : EduceError) → IsPlaceCause listed attributes e → ⊥
  no_place_cause attributes found are u h e (IsPlaceCause.list cause) = lists_uncaused attributes found are e cause
  no_place_cause attributes found are u h e (IsPlaceCause.unsupported path n none) =
      let met = name_met attributes found are path n in
      let c = checks_ok found u h met.meta met.among in
      not_unsupported path c.0 (named_checked met.meta path c.0 met.named met.path_is c.1) none
  no_place_cause attributes found are u h e (IsPlaceCause.not_used path which n is unused) =
      let met = name_met attributes found are path n in
      let c = checks_ok found u h met.meta met.among in
      not_unused path c.0 which (named_checked met.meta path c.0 met.named met.path_is c.1) is unused

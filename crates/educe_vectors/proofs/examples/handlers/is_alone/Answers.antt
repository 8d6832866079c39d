use Rattle.std.proofs.Common.{◌≡◌, ◌∙◌, Bool, true, false, cond, List, [], ◌∷◌, length, inl, inr, refl, sym, ap, subst, arith}
use Rattle.std.specs.List.{Contains, AllByRecursion, AllZip}
use Rattle.std.proofs.lemmas.Bool.{true≢false}
use Rattle.std.proofs.lemmas.Map.Views.{Contains-from_any}
use Rattle.educe_syntax.specs.DeriveInput.{DeriveInput}
use Rattle.educe_syntax.specs.Refusal.{IsDefinition}
use Rattle.educe_attrs.specs.Causes.{NoCause}
use Rattle.educe_attrs.specs.Phases.{OfHandler}
use Rattle.educe_bound_traits.specs.declared.traits.Trait.{Trait}
use Rattle.educe_bound_traits.specs.declared.traits.Trait.TheVariants as trait
use Rattle.educe_bound_traits.specs.Traits.{is_listed}
use Rattle.educe_bound_traits.proofs.Apart.{same_is}
use Rattle.educe_settings.specs.Handled.{handling}
use Rattle.educe_meaning.specs.Handlers.{Noted, IsNoted, IsReady, AreUncaused, handled_of, traits_before}
use Rattle.educe_settings.specs.Listed.{listed}
use Rattle.educe_settings.proofs.Elements.{In-from_Contains, each_weaker}
use Rattle.educe_vectors.proofs.examples.handlers.is_alone.Goals as goal

-- of one trait, the one that is listed
only_listed : (which : Trait) (traits : List Trait) → length traits ≡ 1 → is_listed traits which ≡ true → traits ≡ which ∷ []
only_listed which [] one lists = absurd (omega arith)
only_listed which (only ∷ []) one lists =
    let found : Contains (only ∷ []) which = Contains-from_any (λ a b same. (same_is a b).0 same) which (only ∷ []) lists in
    elim (In-from_Contains (only ∷ []) which found) [ inl here ↦ ap (λ (t : Trait). t ∷ []) here | inr later ↦ absurd later ]
only_listed which (only ∷ other ∷ more) one lists = absurd (omega arith)

-- no trait that is handled before it is the same
none_before : (which : Trait) → AllByRecursion (λ (w : Trait). is_listed (which ∷ []) w ≡ false) (traits_before which)
none_before trait.Debug = tt
none_before trait.Clone = (refl, tt)
none_before trait.Copy = (refl, (refl, tt))
none_before trait.PartialEq = (refl, (refl, (refl, tt)))
none_before trait.Eq = (refl, (refl, (refl, (refl, tt))))
none_before trait.PartialOrd = (refl, (refl, (refl, (refl, (refl, tt)))))
none_before trait.Ord = (refl, (refl, (refl, (refl, (refl, (refl, tt))))))
none_before trait.Hash = (refl, (refl, (refl, (refl, (refl, (refl, (refl, tt)))))))
none_before trait.Default = (refl, (refl, (refl, (refl, (refl, (refl, (refl, (refl, tt))))))))

module _ (which : Trait) (d : DeriveInput) (only : listed d ≡ which ∷ []) where
  unlisted : (w : Trait) → is_listed (which ∷ []) w ≡ false → is_listed (listed d) w ≡ false
  unlisted w apart = ap (λ (all : List Trait). is_listed all w) only ∙ apart

  -- no trait that is handled before it has a cause
  none_caused : AreUncaused d (traits_before which)
  none_caused =
      each_weaker (λ (w : Trait). is_listed (which ∷ []) w ≡ false) (λ (w : Trait). is_listed (listed d) w ≡ true → NoCause (OfHandler (handling d) w))
      (λ w apart lists. absurd (true≢false (sym lists ∙ unlisted w apart))) (traits_before which) (none_before which)

  -- and none is handled
  none_handled : (done : List Trait) → AllByRecursion (λ (w : Trait). is_listed (which ∷ []) w ≡ false) done → handled_of (listed d) done ≡ []
  none_handled [] apart = refl
  none_handled (w ∷ ws) apart =
      ap (λ (b : Bool). cond b (w ∷ handled_of (listed d) ws) (handled_of (listed d) ws)) (unlisted w apart.0) ∙ none_handled ws apart.1

  -- the definition is ready for the handler of the trait
  is_ready : (traits : List Trait) (noted : List Noted) → IsDefinition d.tokens d → traits ≡ listed d → is_listed traits which ≡ true → noted ≡ [] → IsReady which d traits noted
  is_ready traits noted read are lists unnoted = record {
    is_read = read;
    traits_are = are;
    lists = lists;
    uncaused = none_caused;
    noted_are = subst (λ (handled : List Trait). AllZip (IsNoted d) handled noted) (sym (none_handled (traits_before which) (none_before which))) (subst (AllZip (IsNoted d) []) (sym unnoted) tt);
  }

pub returns : goal.returns
returns g c = λ lists noted unnoted.
    let which = g.H.TraitHandler.TRAIT in
    let ast = c.args.ast.now in
    let single : length c.args.listed.now ≡ 1 = omega arith in
    let own : is_listed c.args.listed.now which ≡ true = ap (is_listed c.args.listed.now) (sym c.TRAIT.ensures) ∙ sym c.is_listed.ensures ∙ lists in
    let only : listed ast ≡ which ∷ [] = sym c.requires.listed ∙ only_listed which c.args.listed.now single own in
    is_ready which ast only c.args.listed.now noted c.requires.read c.requires.listed own unnoted

-- What is noted of the predicates that an impl adds.
use Rattle.std.proofs.Common.{◌≡◌, ◌∙◌, Bool, true, cond, List, [], ◌∷◌, ◌++◌, ap, subst, sym}
use Rattle.std.specs.List.{AllZip}
use Rattle.std.proofs.lemmas.List.Elements.{filter-append}
use Rattle.educe_syntax.specs.DeriveInput.{DeriveInput}
use Rattle.educe_bound_traits.specs.declared.traits.Trait.{Trait}
use Rattle.educe_bound_traits.specs.Traits.{is_listed}
use Rattle.educe_settings.proofs.Lists.{zip_push}
use Rattle.educe_meaning.specs.Handlers.{Noted, IsNoted, AreNoted, handled_of, traits_before, traits_through}
use Rattle.educe_meaning.specs.Headers.{ImplAdds}
use Rattle.educe_settings.specs.Listed.{listed}

module _ (d : DeriveInput) (which : Trait) (lists : is_listed (listed d) which ≡ true) where
  -- of the traits up to this one, it is handled behind those that were before
  handled_through : handled_of (listed d) (traits_through which) ≡ handled_of (listed d) (traits_before which) ++ which ∷ []
  handled_through =
      filter-append (is_listed (listed d)) (traits_before which) (which ∷ [])
      ∙ ap (λ (b : Bool). handled_of (listed d) (traits_before which) ++ cond b (which ∷ []) []) lists

  -- what is noted of it behind what was noted before is what the handler of the next trait asks for
  pub noted_through : (before after : List Noted) (own : Noted) → AreNoted d (traits_before which) before → after ≡ before ++ own ∷ []
      → own.which ≡ which → ImplAdds d which own.added → AreNoted d (traits_through which) after
  noted_through before after own noted pushed which_is adds =
      subst (λ traits. AllZip (IsNoted d) traits after) (sym handled_through)
      (subst (AllZip (IsNoted d) (handled_of (listed d) (traits_before which) ++ which ∷ [])) (sym pushed)
      (zip_push (IsNoted d) (handled_of (listed d) (traits_before which)) before which own noted (record { which_is = which_is; adds = adds })))

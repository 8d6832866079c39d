-- Predicates that are added one list after the other.
use Rattle.std.proofs.Common.{◌≡◌, ℕ, ◌+◌, ◌<◌, suc, List, [], ◌∷◌, ◌++◌, take, drop, get_or, length, true, false, sym, subst, ◌∙◌, ap, append-nil, add-one, drop-cons}
use Rattle.std.proofs.lemmas.List.{take_more}
use Rattle.std.proofs.lemmas.Grind.{flat_map-append}
use Rattle.educe_bound_classes.specs.Deriving.{Extends}
use Rattle.educe_bound_traits.specs.Traits.{same_trait}
use Rattle.educe_meaning.specs.Handlers.{Noted, noted_of, inherited_from}
use Rattle.educe_bound_traits.specs.declared.traits.Trait.{Trait}
use Rattle.educe_bound.specs.Predicates.{Key, keys_of}

-- a list that is extended by one list and then by another is extended by both
pub extended_both : {K : Type 0} {known first middle second all : List K} → Extends known first middle → Extends middle second all → Extends known (first ++ second) all
extended_both (Extends.done known) later = later
extended_both (Extends.held known k has more) later = Extends.held known k has (extended_both more later)
extended_both (Extends.added known k new more) later = Extends.added known k new (extended_both more later)

-- what is inherited of one trait more
inherited_from-push : (noted : List Noted) (traits : List Trait) (which : Trait) → inherited_from noted (traits ++ which ∷ []) ≡ inherited_from noted traits ++ noted_of which noted
inherited_from-push noted traits which =
    flat_map-append (λ w. noted_of w noted) traits (which ∷ []) ∙ ap (λ more. inherited_from noted traits ++ more) (append-nil (noted_of which noted))

-- a loop over traits that adds what is noted of each
pub inherited_more : (noted : List Noted) (traits : List Trait) (i : ℕ) (d : Trait) (known before after : List Key) → i < length traits → Extends known (inherited_from noted (take i traits)) before
    → Extends before (noted_of (get_or traits i d) noted) after → Extends known (inherited_from noted (take (i + 1) traits)) after
inherited_more noted traits i d known before after less front here =
    subst (λ added. Extends known added after) (sym (ap (inherited_from noted) (take_more traits i d less) ∙ inherited_from-push noted (take i traits) (get_or traits i d)))
    (extended_both front here)

-- one that is noted of another trait is passed over
noted_of-other : (which : Trait) (n : Noted) (ns : List Noted) → same_trait n.which which ≡ false → noted_of which (n ∷ ns) ≡ noted_of which ns
noted_of-other which n ns other = rw other

-- and one that is noted of the trait is found
noted_of-same : (which : Trait) (n : Noted) (ns : List Noted) → same_trait n.which which ≡ true → noted_of which (n ∷ ns) ≡ keys_of n.added
noted_of-same which n ns is = rw is

-- a search that has passed over what is noted of other traits, at one more
pub noted_passed : (which : Trait) (noted : List Noted) (i : ℕ) (d n : Noted) → i < length noted → n ≡ get_or noted i d → same_trait n.which which ≡ false
    → noted_of which noted ≡ noted_of which (drop i noted) → noted_of which noted ≡ noted_of which (drop (i + 1) noted)
noted_passed which noted i d n less item other before =
    before ∙ ap (noted_of which) (drop-cons noted i d less ∙ ap (λ first. first ∷ drop (suc i) noted) (sym item))
    ∙ noted_of-other which n (drop (suc i) noted) other ∙ ap (λ j. noted_of which (drop j noted)) (sym (add-one i))

-- and at what is noted of the trait
pub noted_found : (which : Trait) (noted : List Noted) (i : ℕ) (d n : Noted) → i < length noted → n ≡ get_or noted i d → same_trait n.which which ≡ true
    → noted_of which noted ≡ noted_of which (drop i noted) → noted_of which noted ≡ keys_of n.added
noted_found which noted i d n less item is before =
    before ∙ ap (noted_of which) (drop-cons noted i d less ∙ ap (λ first. first ∷ drop (suc i) noted) (sym item)) ∙ noted_of-same which n (drop (suc i) noted) is

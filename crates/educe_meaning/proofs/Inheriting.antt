-- What the context notes of the traits that a trait inherits from is what its impl inherits.
use Rattle.std.proofs.Common.{◌≡◌, Bool, true, false, ◌&&◌, inl, inr, List, [], ◌∷◌, ◌++◌, refl, sym, ap, ◌∙◌, subst}
use Rattle.std.specs.Prelude.{if◌then◌else◌}
use Rattle.std.specs.List.{AllByRecursion, AllZip}
use Rattle.std.proofs.lemmas.Bool.{true≢false, false≢true, or_cases, or_parts}
use Rattle.std.proofs.lemmas.Map.Views.{any-filter_same}
use Rattle.educe_syntax.specs.DeriveInput.{DeriveInput}
use Rattle.educe_bound_traits.specs.declared.traits.Trait.{Trait}
use Rattle.educe_bound_traits.specs.declared.traits.Trait.TheVariants as trait
use Rattle.educe_bound.specs.Predicates.{Key, keys_of}
use Rattle.educe_bound_traits.specs.Traits.{is_listed, same_trait}
use Rattle.educe_bound_traits.proofs.Apart.{same_is}
use Rattle.educe_meaning.specs.Handlers.{traits_before, handled_of, Noted, IsNoted, AreNoted, AreNotedRead, noted_of, inherited_from}
use Rattle.educe_meaning.specs.Headers.{AreOf, AreInherited, from_none, unlisted, from_listed, prerequisites}
use Rattle.educe_settings.specs.Listed.{listed}
use Rattle.educe_settings.proofs.Elements.{each_weaker}

-- ---- listed traits

-- a trait was handled where it is listed and among those that are done
handled_is : (traits done : List Trait) (which : Trait) → is_listed (handled_of traits done) which ≡ (is_listed traits which && is_listed done which)
handled_is traits done which =
    any-filter_same (same_trait which) (is_listed traits) (is_listed traits which) (λ other same. ap (is_listed traits) (sym ((same_is which other).0 same))) done

-- ---- what is noted

module _ (d : DeriveInput) (which : Trait) where
  -- a note of this trait has what its impl adds; one of another is passed over
  noted_step : (n : Noted) (t : Trait) (rest : List Key) (b : Bool) → same_trait n.which which ≡ b → IsNoted d t n → (b ≡ false → AreOf d which rest) → AreOf d which (if b then keys_of n.added else rest)
  noted_step n t rest true same is later = subst (λ own. AreOf d own (keys_of n.added)) (sym is.which_is ∙ (same_is n.which which).0 same) is.adds.are
  noted_step n t rest false apart is later = later refl

  -- a note of this trait is that of the handler of this trait
  note_own : (n : Noted) (t : Trait) → IsNoted d t n → same_trait n.which which ≡ true → same_trait which t ≡ true
  note_own n t is same = (same_is which t).1 (sym ((same_is n.which which).0 same) ∙ is.which_is)

  -- of a trait that was handled, what its impl adds is noted
  noted_listed : (handled : List Trait) (noted : List Noted) → AllZip (IsNoted d) handled noted → is_listed handled which ≡ true → AreOf d which (noted_of which noted)
  noted_listed [] [] are lists = absurd (false≢true lists)
  noted_listed [] (n ∷ ns) are lists = absurd are
  noted_listed (t ∷ ts) [] are lists = absurd are
  noted_listed (t ∷ ts) (n ∷ ns) are lists =
      noted_step n t (noted_of which ns) (same_trait n.which which) refl are.0
      (λ apart. elim (or_cases (same_trait which t) (is_listed ts which) lists) [
        | inl here ↦ absurd (true≢false (sym ((same_is n.which which).1 (are.0.which_is ∙ sym ((same_is which t).0 here))) ∙ apart))
        | inr later ↦ noted_listed ts ns are.1 later
      ])

  -- where a note is of another trait, nothing is noted if nothing is behind it
  none_step : (n : Noted) (rest : List Key) (b : Bool) → (b ≡ true → ⊥) → rest ≡ [] → (if b then keys_of n.added else rest) ≡ []
  none_step n rest true apart none = absurd (apart refl)
  none_step n rest false apart none = none

  -- of any other, nothing is
  noted_unlisted : (handled : List Trait) (noted : List Noted) → AllZip (IsNoted d) handled noted → is_listed handled which ≡ false → noted_of which noted ≡ []
  noted_unlisted [] [] are fails = refl
  noted_unlisted [] (n ∷ ns) are fails = absurd are
  noted_unlisted (t ∷ ts) [] are fails = absurd are
  noted_unlisted (t ∷ ts) (n ∷ ns) are fails =
      let none = or_parts (same_trait which t) (is_listed ts which) fails in
      none_step n (noted_of which ns) (same_trait n.which which) (λ same. true≢false (sym (note_own n t are.0 same) ∙ none.0)) (noted_unlisted ts ns are.1 none.1)

-- ---- what is inherited

module _ (d : DeriveInput) (done : List Trait) (noted : List Noted) (are : AreNoted d done noted) where
  inherited_step : (t : Trait) (ts : List Trait) (b : Bool) → is_listed (listed d) t ≡ b → (is_listed (listed d) t ≡ true → is_listed done t ≡ true)
      → AreInherited d ts (inherited_from noted ts) → AreInherited d (t ∷ ts) (inherited_from noted (t ∷ ts))
  inherited_step t ts true lists is_done later =
      let handled = handled_is (listed d) done t ∙ ap (λ b. b && is_listed done t) lists ∙ is_done lists in
      from_listed t (noted_of t noted) lists (noted_listed d t (handled_of (listed d) done) noted are handled) later
  inherited_step t ts false fails is_done later =
      let unhandled = handled_is (listed d) done t ∙ ap (λ b. b && is_listed done t) fails in
      let none = noted_unlisted d t (handled_of (listed d) done) noted are unhandled in
      subst (AreInherited d (t ∷ ts)) (ap (λ own. own ++ inherited_from noted ts) (sym none)) (unlisted t fails later)

  -- where those of some traits that are listed are done, what is noted of them is what is inherited of them
  all_inherited : (traits : List Trait) → AllByRecursion (λ t. is_listed (listed d) t ≡ true → is_listed done t ≡ true) traits → AreInherited d traits (inherited_from noted traits)
  all_inherited [] each = from_none
  all_inherited (t ∷ ts) each = inherited_step t ts (is_listed (listed d) t) refl each.0 (all_inherited ts each.1)

-- a trait that another one inherits from is handled before it
abbrev IsBefore : Trait → Trait → Type 0
IsBefore which t = is_listed (traits_before which) t ≡ true

all_before : (which : Trait) → AllByRecursion (IsBefore which) (prerequisites which)
all_before trait.Debug = tt
all_before trait.Clone = tt
all_before trait.Copy = (refl, tt)
all_before trait.PartialEq = tt
all_before trait.Eq = (refl, tt)
all_before trait.PartialOrd = (refl, tt)
all_before trait.Ord = (refl, (refl, tt))
all_before trait.Hash = tt
all_before trait.Default = tt

-- what is noted of the traits that a trait inherits from is what its impl inherits
pub trait_inherits : (which : Trait) (d : DeriveInput) (noted : List Noted) → AreNoted d (traits_before which) noted
    → AreInherited d (prerequisites which) (inherited_from noted (prerequisites which))
trait_inherits which d noted are =
    let Done : Trait → Type 0 = λ t. is_listed (listed d) t ≡ true → is_listed (traits_before which) t ≡ true in
    all_inherited d (traits_before which) noted are (prerequisites which) (each_weaker (IsBefore which) Done (λ t before lists. before) (prerequisites which) (all_before which))

-- ---- readings

-- what handlers note is read
pub noted_read : (d : DeriveInput) (handled : List Trait) (noted : List Noted) → AllZip (IsNoted d) handled noted → AreNotedRead noted
noted_read d [] [] are = tt
noted_read d [] (n ∷ ns) are = absurd are
noted_read d (t ∷ ts) [] are = absurd are
noted_read d (t ∷ ts) (n ∷ ns) are = (are.0.adds.read, noted_read d ts ns are.1)

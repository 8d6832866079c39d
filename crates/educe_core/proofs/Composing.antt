-- One handler behind the other.
use Rattle.std.proofs.Common.{◌≡◌, ◌≢◌, ◌∙◌, true, false, cond, List, [], ◌∷◌, ◌++◌, Result, Ok, Err, refl, sym, ap, subst, append_assoc, append-nil, arith}
use Rattle.std.specs.Prelude.{Contains, OnOk, slice_index_or}
use Rattle.std.specs.List.{AllByRecursion, AllZip}
use Rattle.std.proofs.lemmas.Bool.{true≢false, eq-eqb}
use Rattle.std.proofs.lemmas.List.Elements.{filter-append, All-contains, All-from_recursion}
use Rattle.std.proofs.lemmas.List.Folds.{list_any_at}
use Rattle.std.proofs.lemmas.Map.Views.{Contains-from_any}
use Rattle.educe_tokens.specs.declared.error.EduceError.{EduceError}
use Rattle.educe_syntax.specs.DeriveInput.{DeriveInput}
use Rattle.educe_bound_traits.specs.declared.traits.Trait.{Trait}
use Rattle.educe_bound_traits.specs.declared.traits.Trait.TheVariants as trait
use Rattle.educe_bound_traits.specs.Traits.{variants, place, same_trait, is_listed}
use Rattle.educe_bound_traits.proofs.Apart.{same_is}
use Rattle.educe_attrs.specs.Causes.{NoCause}
use Rattle.educe_attrs.specs.Laws.{all_handled, one_refused}
use Rattle.educe_attrs.specs.Listing.{IsListing}
use Rattle.educe_attrs.specs.Phases.{OfHandler}
use Rattle.educe_attrs.specs.Stop.{Stop}
use Rattle.educe_body_items.specs.declared.items.Item.{Item}
use Rattle.educe_handlers.specs.Laws.{lawful_traits}
use Rattle.educe_meaning.specs.Blocks.{IsBlock, Blocks, OneEach, EachEvaluates}
use Rattle.educe_settings.specs.Handled.{handling, IsListedCause}
use Rattle.educe_meaning.specs.Handlers.{Noted, IsNoted, AreNoted, AddsBlock, AddsMeaning, handled_of}
use Rattle.educe_settings.specs.Listed.{listed}
use Rattle.educe_settings.specs.Said.{AreAllSaid}
use Rattle.educe_settings.proofs.Elements.{each_joined}
use Rattle.educe_core.specs.Composed.{AreHandled}

-- ---- the listed traits

-- a listed trait stands in the list
listed_stands : (traits : List Trait) (which : Trait) → is_listed traits which ≡ true → Contains traits which
listed_stands traits which lists = Contains-from_any (λ a b same. (same_is a b).0 same) which traits lists

-- each trait is one of all
each_listed : (which : Trait) → is_listed variants which ≡ true
each_listed trait.Debug = refl
each_listed trait.Clone = refl
each_listed trait.Copy = refl
each_listed trait.PartialEq = refl
each_listed trait.Eq = refl
each_listed trait.PartialOrd = refl
each_listed trait.Ord = refl
each_listed trait.Hash = refl
each_listed trait.Default = refl

-- a trait that stands in the list is listed
standing_listed : (traits : List Trait) (which : Trait) → Contains traits which → is_listed traits which ≡ true
standing_listed traits which found =
    list_any_at (same_trait which) traits found.0 which found.1 (eq-eqb (place which) (place (slice_index_or traits found.0 which)) (ap place (sym found.2)))

-- a cause of a listed trait's handler is one of the last phase
pub listed_refused : (d : DeriveInput) (which : Trait) → is_listed (listed d) which ≡ true → (e : EduceError) → OfHandler (handling d) which e → IsListedCause d e
listed_refused d which lists e cause = one_refused (handling d) (listed d) which (listed_stands (listed d) which lists) e cause

-- ---- one handler more

-- one block more, behind the others
blocks_more : (traits : List Trait) (which : Trait) (d : DeriveInput) (items own : List Item) → Blocks traits d items → IsBlock which d own → Blocks (traits ++ which ∷ []) d (items ++ own)
blocks_more [] which d items own none block = (own, [], ap (λ front. front ++ own) none ∙ sym (append-nil own), block, refl)
blocks_more (t ∷ traits) which d items own (first, rest, is, here, later) block =
    (first, rest ++ own, ap (λ all. all ++ own) is ∙ append_assoc first rest own, here, blocks_more traits which d rest own later block)

module _ (done : List Trait) (which : Trait) (d : DeriveInput) (noted : List Noted) (items : List Item) (before : AreHandled done d noted items) where
  -- the traits that were handled before, and this one where it is listed
  handled_more : handled_of (listed d) (done ++ which ∷ []) ≡ handled_of (listed d) done ++ cond (is_listed (listed d) which) (which ∷ []) []
  handled_more = filter-append (is_listed (listed d)) done (which ∷ [])

  -- the trait is listed, and its handler ran
  listed_more : (after : List Noted) (new : List Item) → is_listed (listed d) which ≡ true → AddsBlock which d items new → AddsMeaning d items new
      → AreNoted d (done ++ which ∷ []) after → NoCause (OfHandler (handling d) which) → AreHandled (done ++ which ∷ []) d after new
  listed_more after new lists adds means notes uncaused =
      let now_handled : handled_of (listed d) done ++ which ∷ [] ≡ handled_of (listed d) (done ++ which ∷ []) =
      ap (λ b. handled_of (listed d) done ++ cond b (which ∷ []) []) (sym lists) ∙ sym handled_more in
      let more = blocks_more (handled_of (listed d) done) which d items adds.own before.blocks adds.block in
      record {
        noted_are = notes;
        blocks = subst (λ is. Blocks (handled_of (listed d) (done ++ which ∷ [])) d is) (sym adds.is) (subst (λ ts. Blocks ts d (items ++ adds.own)) now_handled more);
        evaluates = subst (AllByRecursion (EachEvaluates d)) (sym means.is) (each_joined (EachEvaluates d) items means.own before.evaluates means.each);
        uncaused = each_joined _ done (which ∷ []) before.uncaused ((λ _. uncaused), tt);
      }

  -- the trait is not listed
  pub unlisted_more : is_listed (listed d) which ≡ false → AreHandled (done ++ which ∷ []) d noted items
  unlisted_more fails =
      let as_before : handled_of (listed d) done ≡ handled_of (listed d) (done ++ which ∷ []) =
      sym (handled_more ∙ ap (λ b. handled_of (listed d) done ++ cond b (which ∷ []) []) fails ∙ append-nil (handled_of (listed d) done)) in
      record {
        noted_are = subst (λ ts. AllZip (IsNoted d) ts noted) as_before before.noted_are;
        blocks = subst (λ ts. Blocks ts d items) as_before before.blocks;
        evaluates = before.evaluates;
        uncaused = each_joined _ done (which ∷ []) before.uncaused ((λ lists. absurd (true≢false (sym lists ∙ fails))), tt);
      }

  -- the trait is listed, and its handler answered this
  pub listed_answered : {A : Type 0} (r : Result A Stop) (after : List Noted) (new : List Item) → is_listed (listed d) which ≡ true → OnOk r (AddsBlock which d items new)
      → OnOk r (AddsMeaning d items new) → OnOk r (AreNoted d (done ++ which ∷ []) after) → OnOk r (NoCause (OfHandler (handling d) which))
      → OnOk r (AreHandled (done ++ which ∷ []) d after new)
  listed_answered (Ok x) after new lists adds means notes uncaused = listed_more after new lists adds means notes uncaused
  listed_answered (Err s) after new lists adds means notes uncaused = tt

-- ---- all of them

-- no handler ran
pub none_handled : (d : DeriveInput) (noted : List Noted) (items : List Item) → noted ≡ [] → items ≡ [] → AreHandled [] d noted items
none_handled d noted items unnoted empty = record {
  noted_are = subst (AreNoted d []) (sym unnoted) tt;
  blocks = empty;
  evaluates = subst (AllByRecursion (EachEvaluates d)) (sym empty) tt;
  uncaused = tt;
}

-- a list that is not empty has an element
some_stands : (traits : List Trait) → traits ≢ [] → (which : Trait) × Contains traits which
some_stands [] some_listed = absurd (some_listed refl)
some_stands (which ∷ more) some_listed = (which, (0, omega arith, refl))

module _ (d : DeriveInput) (noted : List Noted) (items : List Item) (all : AreHandled variants d noted items) where
  -- each listed trait has its block, and there is nothing else
  pub one_each : OneEach d items
  one_each = all.blocks

  -- no cause of a listed trait stands
  trait_uncaused : (which : Trait) → is_listed (listed d) which ≡ true → NoCause (OfHandler (handling d) which)
  trait_uncaused which lists =
      let Uncaused : Trait → Type 0 = λ own. is_listed (listed d) own ≡ true → NoCause (OfHandler (handling d) own) in
      All-contains Uncaused variants which (All-from_recursion Uncaused variants all.uncaused) (listed_stands variants which (each_listed which)) lists

  -- and none of the last phase
  pub last_uncaused : IsListing d.attrs (listed d) → NoCause (IsListedCause d)
  last_uncaused listing =
      let some = some_stands (listed d) listing.some_listed in
      all_handled (handling d) (listed d) some.0 some.1 (λ which found. trait_uncaused which (standing_listed (listed d) which found))

  -- and the settings of each listed trait are what the attributes say
  pub all_said : AreAllSaid d
  all_said which lists = lawful_traits.said which d lists (trait_uncaused which lists)

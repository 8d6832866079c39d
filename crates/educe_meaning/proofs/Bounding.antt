-- Automatic bounds suffice, and none of their own predicates can be dropped.
use Rattle.std.proofs.Common.{◌≡◌, Bool, true, false, List, [], ◌∷◌, ◌++◌, map, sym, ap, ◌∙◌, subst, append_assoc, append-nil}
use Rattle.std.specs.Prelude.{codes}
use Rattle.std.specs.List.{AllByRecursion}
use Rattle.std.proofs.lemmas.List.{map-append}
use Rattle.educe_syntax.specs.DeriveInput.{DeriveInput}
use Rattle.educe_syntax.specs.Generics.{Generics}
use Rattle.educe_syntax.specs.Parsed.{depth_limit}
use Rattle.educe_syntax.specs.Readings.{IsReadType, HasReadParts}
use Rattle.educe_bound_classes.specs.Deriving.{Extends}
use Rattle.educe_bound_classes.specs.Needs.{IsReading, AreOwn, AlwaysSuffice, AreAlwaysMinimal}
use Rattle.educe_bound.specs.declared.bound.Bound.{Bound}
use Rattle.educe_bound.specs.declared.bound.Bound.TheVariants.{Auto}
use Rattle.educe_bound_traits.specs.declared.traits.Trait.{Trait}
use Rattle.educe_bound_traits.specs.declared.traits.Trait.TheVariants as trait
use Rattle.educe_bound.specs.Predicates.{key_of, keys_of, exceptions_of, asks_for, AreByBound}
use Rattle.educe_body_items.specs.declared.items.Function.{Function}
use Rattle.educe_body_items.specs.declared.items.ImplItem.{ImplItem}
use Rattle.educe_body_items.specs.declared.items.MarkerItem.{MarkerItem}
use Rattle.educe_body_items.specs.declared.items.Item.{Item}
use Rattle.educe_body_items.specs.declared.items.Item.TheVariants.{Impl, Marker}
use Rattle.educe_body_forms.specs.declared.comparison.Comparison.{Comparison}
use Rattle.educe_body_forms.specs.declared.comparison.Comparison.TheVariants.{PartialEq, PartialOrd, Ord}
use Rattle.educe_meaning.specs.Blocks.{IsBody, function_name, IsFunction, IsImpl, IsImplBlock, IsComparisonBlock, AreNew, IsDefaultImpl, AreNone, has_check, IsEqBlockWith, AreCloneFunctions, IsCloneBlock, IsDebugBlock, IsBlock, Blocks, OneEach, HasTightBounds}
use Rattle.educe_meaning.specs.Comparisons.{trait_of}
use Rattle.educe_settings.specs.Copying.{copies_whole}
use Rattle.educe_meaning.specs.HashBodies.{IsHashBody}
use Rattle.educe_meaning.specs.Headers.{Inherits, IsHeader, AreTight}
use Rattle.educe_settings.specs.Listed.{listed_in_order}
use Rattle.educe_meaning.specs.Making.{has_new}
use Rattle.educe_settings.specs.Settings.{bound_for}
use Rattle.educe_meaning.specs.ShownBodies.{IsDebugBody}
use Rattle.educe_settings.specs.Types.{checked_types}
use Rattle.educe_settings.proofs.Elements.{each_weaker, each_joined}
use Rattle.educe_meaning.proofs.ReadHeaders.{types_read}

-- ---- lists that are extended

-- what was there stands in front
extends_behind : {K : Type 0} {known more all : List K} → Extends known more all → (added : List K) × (all ≡ known ++ added)
extends_behind (Extends.done known) = ([], sym (append-nil known))
extends_behind (Extends.held known k has rest) = extends_behind rest
extends_behind (Extends.added known k new rest) = let later = extends_behind rest in (k ∷ later.0, later.1 ∙ append_assoc known (k ∷ []) later.0)

-- ---- one impl

module _ (suffice : AlwaysSuffice) (minimal : AreAlwaysMinimal) (d : DeriveInput) (parts : HasReadParts d) where
  -- the header of a trait has tight bounds, where its bound is the automatic one
  header_tight : (which : Trait) (generics : Generics) → IsHeader which d generics → bound_for which d ≡ Auto → AreTight which d (keys_of generics.predicates)
  header_tight which generics header auto =
      let all = keys_of header.added in
      let adds = header.added_are in
      let own_are : AreOwn (exceptions_of which) d.generics.params d.ident.text (asks_for which) adds.touched header.own =
      subst (λ (bound : Bound). AreByBound bound (exceptions_of which) d.generics.params d.ident.text which adds.touched header.own) auto adds.own_are in
      let inherits : Extends adds.with_copies header.inherited all = subst (λ (bound : Bound). Inherits bound adds.with_copies header.inherited all) auto adds.inherited_added in
      let copies = extends_behind adds.copies_added in
      let more = extends_behind inherits in
      let whole : all ≡ header.own ++ (copies.0 ++ more.0) = more.1 ∙ ap (λ front. front ++ more.0) copies.1 ∙ append_assoc header.own copies.0 more.0 in
      let readings : AllByRecursion IsReading adds.touched =
      each_weaker IsReadType IsReading (λ ty reads. (depth_limit, reads)) adds.touched (types_read which d adds.read adds.touched parts adds.types_are).1 in
      record {
        read = adds.read;
        touched = adds.touched;
        types_are = adds.types_are;
        own = header.own;
        others = copies.0 ++ more.0;
        header_is = ap keys_of header.predicates_are ∙ map-append key_of d.generics.predicates header.added ∙ ap (λ added. keys_of d.generics.predicates ++ added) whole;
        suffices = suffice (exceptions_of which) d.generics.params d.ident.text (asks_for which) adds.touched header.own own_are;
        minimal = minimal (exceptions_of which) d.generics.params d.ident.text (asks_for which) adds.touched header.own readings own_are;
      }

  -- the impl of a trait has tight bounds
  item_tight : (which : Trait) (AreFunctions : List Function → Type 0) (item : ImplItem) → IsImpl which d AreFunctions item → HasTightBounds d (Impl item)
  item_tight which AreFunctions item is =
      let Tight : Trait → Type 0 = λ which. bound_for which d ≡ Auto → AreTight which d (keys_of item.generics.predicates) in
      subst Tight (sym is.which_is) (header_tight which item.generics is.header_is)

  -- the items of a block of one impl have tight bounds
  impl_tight : (which : Trait) (AreFunctions : List Function → Type 0) (items : List Item) → IsImplBlock which d AreFunctions items → AllByRecursion (HasTightBounds d) items
  impl_tight which AreFunctions items k = subst (AllByRecursion (HasTightBounds d)) (sym k.are) (item_tight which AreFunctions k.item k.impl_is, tt)

  -- the items of the block of `Eq`, with its check or without, have tight bounds
  eq_tight : (checks : Bool) (items : List Item) → IsEqBlockWith checks d items → AllByRecursion (HasTightBounds d) items
  eq_tight true items k = subst (AllByRecursion (HasTightBounds d)) (sym k.are) (tt, (item_tight trait.Eq AreNone k.item k.impl_is, tt))
  eq_tight false items k = impl_tight trait.Eq AreNone items k

  -- the items of the block of a comparison have tight bounds
  comparison_tight : (which : Comparison) (items : List Item) → IsComparisonBlock which d items → AllByRecursion (HasTightBounds d) items
  comparison_tight which items k = impl_tight (trait_of which) (IsFunction (function_name which) (IsBody which d)) items k

  -- the impl of `Default`
  default_tight : (item : ImplItem) → IsDefaultImpl d item → HasTightBounds d (Impl item)
  default_tight item is =
      let Tight : Trait → Type 0 = λ which. bound_for which d ≡ Auto → AreTight which d (keys_of item.generics.predicates) in
      subst Tight (sym is.which_is) (header_tight trait.Default item.generics is.header_is)

  -- the impl that holds `new` has tight bounds
  new_tight : (is_asked : Bool) (item : ImplItem) → IsDefaultImpl d item → (more : List Item) → AreNew is_asked d item.generics more → AllByRecursion (HasTightBounds d) more
  new_tight false item is more are = subst (AllByRecursion (HasTightBounds d)) (sym are) tt
  new_tight true item is more (own, are, new) =
      let Tight : Trait → Generics → Type 0 = λ which generics. bound_for which d ≡ Auto → AreTight which d (keys_of generics.predicates) in
      let same : Tight trait.Default own.generics = subst (Tight trait.Default) (sym new.generics_are) (header_tight trait.Default item.generics is.header_is) in
      let tight : Tight own.which own.generics = subst (λ which. Tight which own.generics) (sym new.which_is) same in
      subst (AllByRecursion (HasTightBounds d)) (sym are) (tight, tt)

  -- markers have no bounds of their own
  markers_tight : (markers : List MarkerItem) → AllByRecursion (HasTightBounds d) (map Marker markers)
  markers_tight [] = tt
  markers_tight (m ∷ ms) = (tt, markers_tight ms)

  -- the items of the block of `Clone` have tight bounds
  clone_tight : (items : List Item) → IsCloneBlock d items → AllByRecursion (HasTightBounds d) items
  clone_tight items k =
      let own = item_tight trait.Clone (AreCloneFunctions (copies_whole d) d k.names) k.item k.impl_is in
      subst (AllByRecursion (HasTightBounds d)) (sym k.are) (own, markers_tight k.markers)

  -- the items of the block of `Debug` have tight bounds
  debug_tight : (items : List Item) → IsDebugBlock d items → AllByRecursion (HasTightBounds d) items
  debug_tight items k =
      let own = item_tight trait.Debug (IsFunction (codes "fmt") (IsDebugBody d k.names)) k.item k.impl_is in
      subst (AllByRecursion (HasTightBounds d)) (sym k.are) (own, markers_tight k.markers)

  -- the items of the block of any trait have tight bounds
  block_tight : (which : Trait) (items : List Item) → IsBlock which d items → AllByRecursion (HasTightBounds d) items
  block_tight trait.Clone items k = clone_tight items k
  block_tight trait.Copy items k = impl_tight trait.Copy AreNone items k
  block_tight trait.PartialEq items k = comparison_tight PartialEq items k
  block_tight trait.Eq items k = eq_tight (has_check (bound_for trait.Eq d) (checked_types d)) items k
  block_tight trait.PartialOrd items k = comparison_tight PartialOrd items k
  block_tight trait.Ord items k = comparison_tight Ord items k
  block_tight trait.Hash items k = impl_tight trait.Hash (IsFunction (codes "hash") (IsHashBody d)) items k
  block_tight trait.Debug items k = debug_tight items k
  block_tight trait.Default items k = subst (AllByRecursion (HasTightBounds d)) (sym k.are) (default_tight k.item k.impl_is, new_tight (has_new d) k.item k.impl_is k.more k.more_are)

  -- the items of the blocks of several traits, one behind the other, have tight bounds
  blocks_tight : (traits : List Trait) (items : List Item) → Blocks traits d items → AllByRecursion (HasTightBounds d) items
  blocks_tight [] items are = subst (AllByRecursion (HasTightBounds d)) (sym are) tt
  blocks_tight (which ∷ traits) items are =
      subst (AllByRecursion (HasTightBounds d)) (sym are.2)
      (each_joined (HasTightBounds d) are.0 are.1 (block_tight which are.0 are.3) (blocks_tight traits are.1 are.4))

  -- the items of a definition have tight bounds
  pub bounded_by : (items : List Item) → OneEach d items → AllByRecursion (HasTightBounds d) items
  bounded_by items are = blocks_tight (listed_in_order d) items are

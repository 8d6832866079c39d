use Rattle.std.proofs.Common.{◌∙◌, ℕ, List, ◌++◌, subst}
use Rattle.educe_bound_traits.specs.declared.traits.Trait.TheVariants.{Debug}
use Rattle.educe_settings.proofs.Lists.{one_pushed}
use Rattle.educe_meaning.specs.Markers.{AreMarkers}
use Rattle.educe_settings.specs.Settings.{Kept}
use Rattle.educe_settings.specs.Shown.{all_shown}
use Rattle.educe_make_debug.specs.DebugNames.{names_of}
use Rattle.educe_make_markers.specs.Marking as marking
use Rattle.educe_make_debug.proofs.debug_handling.debug_items.Goals as goal

pub returns : goal.returns
returns c =
    let ast = c.args.ast.now in
    let names = names_of c.args.names.now in
    let item = c.args.item in
    let made = c.in_ok-markers.ensures in
    record {
      names = names;
      names_are = c.requires.names;
      item = item;
      markers = made.markers;
      are = c.in_ok-append.ensures.ok ∙ (λ i. one_pushed _ _ _ c.new-items.ensures c.in_ok-push.ensures.ok i ++ made.is i);
      impl_is = c.requires.item;
      markers_are = subst (λ (own : List (List ℕ)). AreMarkers Debug ast item.generics own (all_shown ast) made.markers) c.in_ok-own.ensures
          (subst (λ (kept : List Kept). AreMarkers Debug ast item.generics (marking.names_of c.in_ok-own.own) kept made.markers) c.requires.shown made.are);
    }

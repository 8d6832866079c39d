use Rattle.std.proofs.Common.{ℕ, ◌∙◌, List, [], ◌∷◌, ◌++◌, map, ap, subst}
use Rattle.educe_bound_traits.specs.declared.traits.Trait.TheVariants.{Clone}
use Rattle.educe_settings.proofs.Lists.{one_pushed}
use Rattle.educe_settings.specs.Ranked.{kept_of}
use Rattle.educe_meaning.specs.Markers.{AreMarkers}
use Rattle.educe_settings.specs.Settings.{Kept}
use Rattle.educe_make_clone.specs.CloneNames.{names_of}
use Rattle.educe_make_markers.specs.Marking.{own_texts}
use Rattle.educe_make_clone.proofs.clone_handling.clone_items.Goals as goal

pub returns : goal.returns
returns c =
    let ast = c.args.ast.now in
    let names = names_of c.args.names.now in
    let item = c.args.item in
    let made = c.in_ok-markers.ensures in
    let texts : List (List ℕ) → Type 0 = λ more. AreMarkers Clone ast item.generics (names.function ∷ names.value ∷ more) (map kept_of c.args.kept.now) made.markers in
    let unformatted : texts [] = subst texts (ap own_texts c.args.names.now.unformatted) made.are in
    record {
      names = names;
      names_are = c.requires.names;
      item = item;
      markers = made.markers;
      are = c.in_ok-append.ensures.ok ∙ (λ i. one_pushed _ _ _ c.new-items.ensures c.in_ok-push.ensures.ok i ++ made.is i);
      impl_is = c.requires.item;
      markers_are = subst (λ (kept : List Kept). AreMarkers Clone ast item.generics (names.function ∷ names.value ∷ []) kept made.markers) c.requires.kept unformatted;
    }

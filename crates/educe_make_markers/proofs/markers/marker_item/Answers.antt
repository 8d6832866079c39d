use Rattle.std.proofs.Common.{refl}
use Rattle.educe_make_markers.proofs.markers.marker_item.Goals as goal

pub returns : goal.returns
returns c = record {
  which_is = refl;
  attributes_are = c.in_ok-lint_attributes.ensures;
  head = c.args.marking.now.replace.now.head;
  head_is = c.requires.can.0;
  generics_are = c.in_ok-visit_generics.ensures;
  ty_is = c.in_ok-visit_type.ensures;
  method_is = c.in_ok-visit_path.ensures;
  names_are = c.in_ok-marker_names.ensures;
}

use Rattle.std.proofs.Common.{refl}
use Rattle.educe_handlers.proofs.items.impl_item.Goals as goal

pub returns : goal.returns
returns c = record {
  which_is = refl;
  attributes_are = c.in_ok-attributes.ensures;
  header_is = c.requires;
  ident_is = c.in_ok-ident.ensures;
  functions_are = refl;
}

use Rattle.std.proofs.Common.{◌≡◌, [], drop}
use Rattle.educe_attrs_places.specs.Lists.{all_metas}
use Rattle.educe_attrs_places.proofs.lists.all_metas.Given as goal

abbrev pub invariant-loop-attribute : goal.invariant-loop-attribute
invariant-loop-attribute l = all_metas [] l.attributes ≡ all_metas l.found (drop l.attribute-index l.attributes)

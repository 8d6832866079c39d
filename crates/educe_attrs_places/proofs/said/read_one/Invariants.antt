use Rattle.std.proofs.Common.{◌≡◌, None, drop}
use Rattle.educe_attrs_places.specs.Said.{read_one}
use Rattle.educe_attrs_places.proofs.said.read_one.Given as goal

abbrev pub invariant-loop-meta : goal.invariant-loop-meta
invariant-loop-meta l = read_one l.which l.row l.metas None ≡ read_one l.which l.row (drop l.meta-index l.metas) l.said

use Rattle.std.proofs.Common.{◌≡◌, drop}
use Rattle.educe_attrs_places.specs.Named.{all_checked}
use Rattle.educe_attrs_places.proofs.named.check_metas.Given as goal

abbrev pub invariant-loop-meta : goal.invariant-loop-meta
invariant-loop-meta l = all_checked l.listed l.metas ≡ all_checked l.listed (drop l.meta-index l.metas)

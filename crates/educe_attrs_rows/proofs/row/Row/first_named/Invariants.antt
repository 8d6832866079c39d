use Rattle.std.proofs.Common.{◌≡◌, drop}
use Rattle.std.specs.Prelude.{find}
use Rattle.educe_attrs_rows.specs.Rows.{names}
use Rattle.educe_attrs_rows.proofs.row.Row.first_named.Given as goal

abbrev pub invariant-loop-param : goal.invariant-loop-param
invariant-loop-param l = find (names l.self l.path) l.params ≡ find (names l.self l.path) (drop l.param-index l.params)

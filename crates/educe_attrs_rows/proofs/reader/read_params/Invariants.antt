use Rattle.std.proofs.Common.{◌≡◌, drop}
use Rattle.educe_attrs_rows.specs.Program.{read_params}
use Rattle.educe_attrs_rows.specs.Settings.{values_at}
use Rattle.educe_attrs_rows.proofs.reader.read_params.Given as goal

abbrev pub invariant-loop-meta : goal.invariant-loop-meta
invariant-loop-meta l = read_params l.row l.name l.metas (values_at l.fn.place) ≡ read_params l.row l.name (drop l.meta-index l.metas) l.values

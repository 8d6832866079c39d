use Rattle.std.proofs.Common.{ap, ◌∙◌}
use Rattle.std.specs.Str.{chars}
use Rattle.educe_attrs_rows.specs.Usage as spec
use Rattle.educe_attrs_rows.proofs.Lines.{ok_as}
use Rattle.educe_attrs_rows.proofs.usage.line.Goals as goal

pub returns : goal.returns
returns c =
    ok_as c.from_str.result (chars c.as_str.result.now) (spec.line c.args.name.now c.args.rest.now) c.from_str.ensures
    (ap chars (c.as_str.ensures.value ∙ c.in_ok-text.ensures.ok))

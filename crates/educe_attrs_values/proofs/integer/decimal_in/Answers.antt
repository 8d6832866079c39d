use Rattle.std.proofs.Common.{◌∙◌}
use Rattle.educe_attrs_values.proofs.Integers.{decimal_parsed}
use Rattle.educe_attrs_values.proofs.integer.decimal_in.Goals as goal

pub returns : goal.returns
returns c = c.ok.ensures.value ∙ decimal_parsed c.args.text.now c.parse.result c.parse.ensures.value.0

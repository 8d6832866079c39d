use Rattle.educe_attrs_values.proofs.ValueLaws.{lawful_kind}
use Rattle.educe_attrs_values.proofs.laws.value_laws.Goals as goal

pub returns : goal.returns
returns c = lawful_kind

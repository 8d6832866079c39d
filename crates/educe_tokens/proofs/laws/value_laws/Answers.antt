use Rattle.educe_tokens.proofs.Lawful.{lawful_values}
use Rattle.educe_tokens.proofs.laws.value_laws.Goals as goal

pub returns : goal.returns
returns c = lawful_values

use Rattle.educe_body_values.proofs.Lawful.{lawful_keys}
use Rattle.educe_body_values.proofs.laws.key_laws.Goals as goal

pub returns : goal.returns
returns c = lawful_keys

use Rattle.educe_body_values.proofs.Lawful.{lawful_scopes}
use Rattle.educe_body_values.proofs.laws.scope_laws.Goals as goal

pub returns : goal.returns
returns c = lawful_scopes

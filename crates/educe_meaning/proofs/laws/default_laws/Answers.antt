use Rattle.educe_meaning.proofs.DefaultEvaluating.{lawful_defaults}
use Rattle.educe_meaning.proofs.laws.default_laws.Goals as goal

pub returns : goal.returns
returns c = lawful_defaults

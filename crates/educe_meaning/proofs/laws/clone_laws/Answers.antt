use Rattle.educe_meaning.proofs.CloneEvaluating.{lawful_clones}
use Rattle.educe_meaning.proofs.laws.clone_laws.Goals as goal

pub returns : goal.returns
returns c = lawful_clones

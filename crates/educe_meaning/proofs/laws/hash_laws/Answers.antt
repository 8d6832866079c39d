use Rattle.educe_meaning.proofs.HashEvaluating.{lawful_hashes}
use Rattle.educe_meaning.proofs.laws.hash_laws.Goals as goal

pub returns : goal.returns
returns c = lawful_hashes

use Rattle.educe_bound.proofs.AskedPredicates.{laws}
use Rattle.educe_bound.proofs.laws.predicate_laws.Goals as goal

pub returns : goal.returns
returns c = laws

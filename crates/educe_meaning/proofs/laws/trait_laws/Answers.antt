use Rattle.educe_meaning.proofs.Traits.{lawful_traits}
use Rattle.educe_meaning.proofs.laws.trait_laws.Goals as goal

pub returns : goal.returns
returns c = lawful_traits

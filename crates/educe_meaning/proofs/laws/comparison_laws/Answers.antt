use Rattle.educe_meaning.proofs.Evaluating.{lawful_comparisons}
use Rattle.educe_meaning.proofs.laws.comparison_laws.Goals as goal

pub returns : goal.returns
returns c = lawful_comparisons

use Rattle.educe_meaning.proofs.Checked.{lawful_checks}
use Rattle.educe_meaning.proofs.laws.eq_laws.Goals as goal

pub returns : goal.returns
returns c = lawful_checks

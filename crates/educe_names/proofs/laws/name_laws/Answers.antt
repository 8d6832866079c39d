use Rattle.educe_names.proofs.Lawful.{lawful_names}
use Rattle.educe_names.proofs.laws.name_laws.Goals as goal

pub returns : goal.returns
returns c = lawful_names

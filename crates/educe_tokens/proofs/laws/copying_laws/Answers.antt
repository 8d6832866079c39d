use Rattle.educe_tokens.proofs.Lawful.{lawful_copies}
use Rattle.educe_tokens.proofs.laws.copying_laws.Goals as goal

pub returns : goal.returns
returns c = lawful_copies

use Rattle.educe_tokens.proofs.Lawful.{lawful_printing}
use Rattle.educe_tokens.proofs.laws.printing_laws.Goals as goal

pub returns : goal.returns
returns c = lawful_printing

use Rattle.educe_tokens.proofs.Lawful.{lawful_kinds}
use Rattle.educe_tokens.proofs.laws.kind_laws.Goals as goal

pub returns : goal.returns
returns c = lawful_kinds

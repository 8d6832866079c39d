use Rattle.educe_tokens.proofs.Lawful.{lawful_lexing}
use Rattle.educe_tokens.proofs.laws.lexing_laws.Goals as goal

pub returns : goal.returns
returns c = lawful_lexing

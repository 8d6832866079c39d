use Rattle.educe_syntax.specs.Laws.{lawful_definitions}
use Rattle.educe_syntax.proofs.laws.definition_laws.Goals as goal

pub returns : goal.returns
returns c = lawful_definitions

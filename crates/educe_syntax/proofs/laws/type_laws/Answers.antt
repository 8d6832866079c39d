use Rattle.educe_syntax.specs.Laws.{lawful_types}
use Rattle.educe_syntax.proofs.laws.type_laws.Goals as goal

pub returns : goal.returns
returns c = lawful_types

use Rattle.educe_syntax.specs.Laws.{lawful_parts}
use Rattle.educe_syntax.proofs.laws.part_laws.Goals as goal

pub returns : goal.returns
returns c = lawful_parts

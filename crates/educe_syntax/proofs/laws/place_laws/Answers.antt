use Rattle.educe_syntax.specs.Laws.{lawful_places}
use Rattle.educe_syntax.proofs.laws.place_laws.Goals as goal

pub returns : goal.returns
returns c = lawful_places

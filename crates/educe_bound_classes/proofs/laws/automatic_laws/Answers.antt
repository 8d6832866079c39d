use Rattle.educe_bound_classes.proofs.Lawful.{always_suffice, always_minimal, always_distinct}
use Rattle.educe_bound_classes.proofs.laws.automatic_laws.Goals as goal

pub returns : goal.returns
returns c = record { suffice = always_suffice; minimal = always_minimal; distinct = always_distinct }

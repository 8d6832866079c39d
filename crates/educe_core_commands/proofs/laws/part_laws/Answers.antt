use Rattle.educe_core_commands.proofs.Divided.{one_division}
use Rattle.educe_core_commands.proofs.Placed.{placed}
use Rattle.educe_core_commands.proofs.laws.part_laws.Goals as goal

pub returns : goal.returns
returns c = record { one_division = one_division; placed = placed }

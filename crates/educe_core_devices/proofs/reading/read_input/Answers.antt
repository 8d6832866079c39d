use Rattle.std.proofs.Common.{arith}
use Rattle.std.proofs.lemmas.Grind.{common_steps}
use Rattle.educe_core_devices.proofs.Bytes.{TakesAtMost-behind}
use Rattle.educe_core_devices.proofs.reading.read_input.Goals as goal

pub returns-in_err-count-clause-most : goal.returns-in_err-count-clause-most
returns-in_err-count-clause-most g c =
    TakesAtMost-behind (g.S.Source.left c.args.source.now) (g.S.Source.left c.loop-room.source) _ c.loop-room.input.items _ 131073 c.loop-room.invariant.taken c.read_once.ensures.most (grind (arith, common_steps))

use Rattle.std.proofs.Common.{◌≡◌, Some, take, drop, length, ap, ◌∙◌, arith}
use Rattle.std.proofs.lemmas.List.{length-take}
use Rattle.std.proofs.lemmas.Grind.{common_steps}
use Rattle.educe_core_devices.proofs.Fronts.{copied_front}
use Rattle.educe_core_devices.proofs.memory.MemorySourceSource.read.Goals as goal

pub returns-clause-moved : goal.returns-clause-moved
returns-clause-moved c =
    let front : c.copy_from_slice.new.self ≡ take c.in_ok-count.count (drop c.args.self.now.taken c.args.self.now.bytes.items) = grind (arith, common_steps) in
    let size : length c.copy_from_slice.new.self ≡ c.in_ok-count.count = c.copy_from_slice.ensures.len ∙ length-take c.in_ok-count.count c.args.room.now ∙ grind (arith, common_steps, c.in_ok-count.ensures.count) in
    ap Some (copied_front c.args.self.now.bytes.items (drop c.in_ok-count.count c.args.room.now) c.copy_from_slice.new.self c.args.self.now.taken c.in_ok-count.count front size)

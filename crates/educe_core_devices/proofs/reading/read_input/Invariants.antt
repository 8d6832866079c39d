use Rattle.std.proofs.Common.{◌≡◌, ◌-◌, ◌≤◌, vec_len, IsTrue}
use Rattle.educe_core_devices.specs.Devices.{ahead}
use Rattle.educe_core_devices.proofs.reading.read_input.Given as goal

abbrev pub invariant-loop-room : goal.invariant-loop-room
invariant-loop-room g l = record {
  taken : g.S.Source.left l.fn.source ≡ ahead l.input.items (g.S.Source.left l.source);
  limit : vec_len l.input ≤ 131073;
  kept : g.S.Source.faults l.source ≡ g.S.Source.faults l.fn.source;
  never : IsTrue (g.S.Source.may_fail l.source) → IsTrue (g.S.Source.may_fail l.fn.source);
}

abbrev pub decreases-loop-room : goal.decreases-loop-room
decreases-loop-room g l = 131073 - vec_len l.input

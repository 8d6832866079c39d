use Rattle.std.proofs.Common.{◌≡◌, ◌-◌, ◌≤◌, length, IsTrue, take, drop}
use Rattle.educe_core_devices.specs.Devices.{behind}
use Rattle.educe_core_devices.proofs.writing.write_all.Given as goal

abbrev pub invariant-loop-rest : goal.invariant-loop-rest
invariant-loop-rest g l = record {
  within : length l.rest ≤ length l.bytes;
  rest : l.rest ≡ drop (length l.bytes - length l.rest) l.bytes;
  held : g.K.Sink.held l.sink ≡ behind (g.K.Sink.held l.fn.sink) (take (length l.bytes - length l.rest) l.bytes);
  kept : g.K.Sink.faults l.sink ≡ g.K.Sink.faults l.fn.sink;
  never : IsTrue (g.K.Sink.may_fail l.sink) → IsTrue (g.K.Sink.may_fail l.fn.sink);
}

abbrev pub decreases-loop-rest : goal.decreases-loop-rest
decreases-loop-rest g l = length l.rest

-- What the devices over memory hold, and what is planned for their calls.
use Rattle.std.specs.Prelude.{ℕ, List, Option, Some, drop}
use Rattle.educe_core_devices.specs.declared.memory.MemorySource.{MemorySource}
use Rattle.educe_core_devices.specs.declared.memory.MemorySink.{MemorySink}
use Rattle.educe_core_devices.specs.declared.plan.Plan.{Plan}

-- The bytes that are left in a source over memory.
abbrev pub source_left : MemorySource → Option (List ℕ)
source_left source = Some (drop source.taken source.bytes.items)

-- What is planned for the reads of the source.
abbrev pub source_plan : MemorySource → Plan
source_plan source = source.plan

-- The bytes that a sink over memory holds.
abbrev pub sink_held : MemorySink → Option (List ℕ)
sink_held sink = Some sink.bytes.items

-- What is planned for the writes to the sink.
abbrev pub sink_plan : MemorySink → Plan
sink_plan sink = sink.plan

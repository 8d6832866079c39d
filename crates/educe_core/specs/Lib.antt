pub mod Headline
pub mod Composed
pub mod Expansion
pub mod Sample
pub mod Spoken
pub mod Laws
pub mod CoherenceLaw
-- What clauses say of the handlers and of their items.
pub use Rattle.educe_meaning.specs.Comparisons
pub use Rattle.educe_settings.specs.Rows
pub use Rattle.educe_settings.specs.Listed
pub use Rattle.educe_settings.specs.Ranks
pub use Rattle.educe_settings.specs.Settings
pub use Rattle.educe_settings.specs.Said
pub use Rattle.educe_settings.specs.Cases
pub use Rattle.educe_meaning.specs.Discriminants
pub use Rattle.educe_meaning.specs.Comparing
pub use Rattle.educe_meaning.specs.Steps
pub use Rattle.educe_settings.specs.Order
pub use Rattle.educe_settings.specs.Types
pub use Rattle.educe_meaning.specs.Arms
pub use Rattle.educe_meaning.specs.Blocks
pub use Rattle.educe_settings.specs.Handled
pub use Rattle.educe_meaning.specs.Handlers
-- What clauses say of how the derived functions fit together.
pub use Rattle.educe_meaning_coherence.specs.Relations
pub use Rattle.educe_meaning_coherence.specs.Lawful
pub use Rattle.educe_meaning_coherence.specs.Coherence
-- What clauses say of devices and of how a run ends, and the types that they name.
pub use Rattle.educe_core_devices.specs.Devices
pub use Rattle.educe_core_devices.specs.Plan as Planned
pub use Rattle.educe_core_devices.specs.Memory
pub use Rattle.educe_core_devices.specs.Status as Statuses
pub use Rattle.educe_core_devices.specs.declared.devices.Stopped
pub use Rattle.educe_core_devices.specs.declared.memory.MemorySource
pub use Rattle.educe_core_devices.specs.declared.memory.MemorySink
pub use Rattle.educe_core_devices.specs.declared.plan.Plan
pub use Rattle.educe_core_devices.specs.declared.status.Status
-- What clauses say of commands, whatever they are.
pub use Rattle.educe_core_commands.specs.Commands

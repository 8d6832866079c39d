-- Re-exports: the builders and their attributes.
pub mod Building
pub mod OneTrait
pub mod Bounds
pub mod NoField
pub mod Cloned
pub mod Compared
pub mod PartialOrdered
pub mod Ordered
pub mod Debug
pub mod Default
-- Re-exports: the laws of attributes as terms.
pub mod Laws
-- Re-exports: the rows, and what a meta says by the row of its place.
pub use Rattle.educe_attrs_rows.specs.Rows
pub use Rattle.educe_attrs_rows.specs.Params
pub use Rattle.educe_attrs_rows.specs.Usage
pub use Rattle.educe_attrs_rows.specs.Settings
pub use Rattle.educe_attrs_rows.specs.Refusals as MetaRefusals
pub use Rattle.educe_attrs_rows.specs.Causes as Says
pub use Rattle.educe_attrs_rows.specs.Among
-- Re-exports: the kinds of values, and the causes for which a value is rejected.
pub use Rattle.educe_attrs_values.specs.Kinds
pub use Rattle.educe_attrs_values.specs.Values as Holds
pub use Rattle.educe_attrs_values.specs.Causes as ValueCauses
pub use Rattle.educe_attrs_values.specs.Refusals
pub use Rattle.educe_attrs_values.specs.Words
pub use Rattle.educe_attrs_values.specs.Metas
-- Re-exports: places, that is several lists, the settings of a trait, the listed traits, and the phases of causes.
pub use Rattle.educe_attrs_places.specs.Causes
pub use Rattle.educe_attrs_places.specs.Lists
pub use Rattle.educe_attrs_places.specs.Said
pub use Rattle.educe_attrs_places.specs.Places
pub use Rattle.educe_attrs_places.specs.Fields
pub use Rattle.educe_attrs_places.specs.Methods
pub use Rattle.educe_attrs_places.specs.SettingLaws
pub use Rattle.educe_attrs_places.specs.Listing
pub use Rattle.educe_attrs_places.specs.Phases
-- Re-exports: errors, with their messages and where they start.
pub use Rattle.educe_attrs_values.specs.Reports as Messages
pub use Rattle.educe_attrs_places.specs.Reports
-- Re-exports: what generated code takes from attributes.
pub use Rattle.educe_attrs_generated.specs.Lints
pub use Rattle.educe_attrs_generated.specs.Represented
pub use Rattle.educe_attrs_generated.specs.Packed
pub use Rattle.educe_attrs_generated.specs.Adjusted
-- Re-exports: the types that clauses name.
pub use Rattle.educe_bound_traits.specs.declared.traits.Trait
pub use Rattle.educe_bound.specs.declared.bound.Bound
pub use Rattle.educe_attrs_values.specs.declared.choices.IdentOrBool
pub use Rattle.educe_attrs_values.specs.declared.choices.WherePredicatesOrBool
pub use Rattle.educe_attrs_values.specs.declared.kind.ValueKind
pub use Rattle.educe_attrs_values.specs.declared.stop.Stop
pub use Rattle.educe_attrs_rows.specs.declared.row.Equals
pub use Rattle.educe_attrs_rows.specs.declared.row.NameKind
pub use Rattle.educe_attrs_rows.specs.declared.row.Row
pub use Rattle.educe_attrs_rows.specs.declared.param.Param
pub use Rattle.educe_attrs_rows.specs.declared.values.Rank
pub use Rattle.educe_attrs_rows.specs.declared.values.Values
pub use Rattle.educe_attrs_places.specs.declared.place.FieldSettings

pub mod NameLaws
-- The words of an input, and names that are none of them.
pub use Rattle.educe_names.specs.Words
pub use Rattle.educe_names.specs.Chosen
pub use Rattle.educe_names.specs.Held

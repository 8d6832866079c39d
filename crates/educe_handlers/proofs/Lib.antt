pub mod Inherited
pub mod Named
pub mod Chosen
pub mod PatternFields
pub mod Headed
pub mod Formed
pub mod CalledPaths
pub mod RuledBounds

pub mod BoundPaths
pub mod Idents
pub mod Segments

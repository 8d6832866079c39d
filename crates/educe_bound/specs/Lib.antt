pub mod Bounds
pub mod Predicates
pub mod Laws
pub mod Sets

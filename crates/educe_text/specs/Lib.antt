pub mod Prefixes
pub mod Signs
pub mod Rules
pub mod Taking
pub mod FirstSets
pub mod Printing
pub mod Laws
pub mod Slices

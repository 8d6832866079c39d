pub mod Prefixes
pub mod Signs
pub mod FirstSets
pub mod Repeats
pub mod Complete
pub mod Sound
pub mod Printing

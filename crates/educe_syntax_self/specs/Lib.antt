pub mod Selves
pub mod Heads
pub mod Replacing
pub mod Splicing
pub mod Visits
pub mod Laws

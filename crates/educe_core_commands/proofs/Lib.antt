pub mod Table
pub mod Outcomes
pub mod Staged
pub mod Cut
pub mod Divided
pub mod Placed
pub mod Lawful

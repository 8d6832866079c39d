pub mod Heads
pub mod Answering
pub mod Reporting
pub mod Shallow
pub mod Seen

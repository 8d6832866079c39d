-- The markers of fields with methods.
pub mod Marking

-- The words of the linter's contract.
pub mod Documentation

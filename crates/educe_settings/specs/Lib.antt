pub mod Rows
pub mod Listed
pub mod Cases
-- What attributes say of a field, and the order of ranks.
pub mod Ranks
pub mod Settings
pub mod CaseSettings
pub mod Methods
pub mod Copying
pub mod Defaults
pub mod Shown
pub mod Order
pub mod Types
-- Whether fields are read by copies.
pub mod Packed
-- What is said where a trait is not rejected, and why it is rejected.
pub mod Said
pub mod Handled
-- Fields, types and settings of the code, behind references.
pub mod Ranked
pub mod EveryType
pub mod SeenTypes

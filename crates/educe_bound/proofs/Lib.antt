pub mod Asking
pub mod Inserted
pub mod Once
pub mod CopiedTokens
pub mod CopiedReads
pub mod CopiedParts
pub mod AskedReads
pub mod AskedPredicates

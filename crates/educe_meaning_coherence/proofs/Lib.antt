mod Lexicographic
mod Sorting
mod Chains
mod Lists
mod Spots
mod Numbers
mod Deciding
mod Fields
mod Whole
mod ByNumber
pub mod Fitting

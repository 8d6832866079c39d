pub mod seq
pub mod boxed

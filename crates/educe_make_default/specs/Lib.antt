-- How the default value of an enum is chosen.
pub mod MadeForms
-- The laws of `Default` as terms.
pub mod DefaultLaws

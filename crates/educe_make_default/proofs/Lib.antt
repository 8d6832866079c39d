pub mod DefaultTexts
pub mod Forms

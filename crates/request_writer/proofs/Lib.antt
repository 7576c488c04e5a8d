pub mod Fill
pub mod Plain
pub mod Back

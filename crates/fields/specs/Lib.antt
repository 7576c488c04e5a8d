pub mod Grounds
pub mod Letters
pub mod Ranges
pub mod Refusals

pub mod Fronts
pub mod Lists
pub mod Members
pub mod Places
pub mod Plain
pub mod Rows

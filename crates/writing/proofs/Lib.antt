pub mod Decimals
pub mod Over
pub mod Commas

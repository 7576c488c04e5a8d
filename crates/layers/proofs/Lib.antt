pub mod Each
mod Examples
pub mod Holding

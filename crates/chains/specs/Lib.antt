pub mod Following
pub mod Paired
pub mod Pairing
pub mod Places

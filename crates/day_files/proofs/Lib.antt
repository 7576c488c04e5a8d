pub mod Faults
pub mod Prefixed

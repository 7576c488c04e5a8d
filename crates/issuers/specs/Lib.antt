pub mod Bands
pub mod Kinds
pub mod Numbers
pub mod Rolls

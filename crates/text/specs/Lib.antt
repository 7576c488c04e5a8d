pub mod Fields
pub mod Cuts
pub mod Reading
pub mod Words
pub mod Groups

pub mod Changes
pub mod Completed
pub mod Edits

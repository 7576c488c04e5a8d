pub mod Matches
pub mod Numbering
pub mod Puts
pub mod Shapes
pub mod Ties
pub mod Unmoved
pub mod Walk
pub mod Walks

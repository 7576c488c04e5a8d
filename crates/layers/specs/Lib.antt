pub mod Codes
pub mod Layers
pub mod Stacks

pub mod Further
pub mod Law
pub mod Plain

mod Examples
pub mod Found

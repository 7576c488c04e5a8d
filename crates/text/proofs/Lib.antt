pub mod Filled
pub mod Parted
pub mod Scan
pub mod Taken

pub mod Keys
pub mod Libraries
pub mod Lists
pub mod Shifts
pub mod Steps
pub mod Words

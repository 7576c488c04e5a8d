pub mod Firsts
pub mod Texts

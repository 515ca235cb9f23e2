pub mod Leaving
pub mod Owed

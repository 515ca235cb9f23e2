pub mod Filters
pub mod Lawful
pub mod Law

pub mod Kinds
pub mod Patterns
pub mod Owed
pub mod Words

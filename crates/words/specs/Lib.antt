pub mod Words
pub mod Reading
pub mod Rows
pub mod Kinds

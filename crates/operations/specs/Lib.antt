pub mod Checks
pub mod Rows
pub mod Refusals
pub mod Sources
pub mod Words
pub mod Rooms
pub mod Passes

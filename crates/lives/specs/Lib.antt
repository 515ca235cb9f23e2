pub mod Refusals
pub mod Rules
pub mod Calls
pub mod Words
pub mod Life

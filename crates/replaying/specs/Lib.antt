pub mod Tickets
pub mod Scripts
pub mod Surveys
pub mod Runs
pub mod Words

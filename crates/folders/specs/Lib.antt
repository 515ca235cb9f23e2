pub mod Folders
pub mod Sayings
pub mod Reports

pub mod Accounts
pub mod Lines
pub mod Scripts

pub mod Accounts
pub mod Unreported
pub mod Reporting

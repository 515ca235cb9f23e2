pub mod Refusals
pub mod Checks
pub mod Judging
pub mod Rows

pub mod Refusals
pub mod Records
pub mod Opening
pub mod Lists

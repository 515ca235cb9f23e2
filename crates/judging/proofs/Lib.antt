pub mod Faulty
pub mod Gathered
mod Filling
mod Found
pub mod Reporting

pub mod Refusals
pub mod Desks
pub mod Surveying
pub mod Faults
pub mod Judged
pub mod Laws
pub mod Surveyed
pub mod Words

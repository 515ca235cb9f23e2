pub mod Places
pub mod RunUps
pub mod Orders
pub mod Listing
pub mod Claims
pub mod Cases

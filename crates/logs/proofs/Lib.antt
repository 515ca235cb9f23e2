pub mod Holding
pub mod Carrying
pub mod Surveying

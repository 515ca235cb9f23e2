pub mod Masks
pub mod Standing
pub mod Outcome

pub mod Masks
pub mod Leaves
mod Steps

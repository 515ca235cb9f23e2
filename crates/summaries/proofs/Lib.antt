pub mod Texts
pub mod Told
mod Kept

pub mod Edges
pub mod Trying

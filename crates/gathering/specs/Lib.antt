pub mod Spans
pub mod Kept
pub mod Faults
pub mod Writes
pub mod Gathering

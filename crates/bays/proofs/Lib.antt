pub mod Passing
pub mod Faulty
pub mod Ranks
pub mod Checked
pub mod Ages

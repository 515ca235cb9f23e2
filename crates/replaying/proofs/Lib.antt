pub mod Going
pub mod Running
pub mod Texts
pub mod Ticketing

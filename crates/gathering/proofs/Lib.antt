pub mod Blank
mod Ranked
mod Lows
mod Wrote
pub mod Twice
mod Spanned
pub mod Seen
mod Noted
pub mod Keeping
pub mod Spared
mod Gathered

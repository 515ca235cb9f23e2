pub mod Summaries
pub mod Summarising

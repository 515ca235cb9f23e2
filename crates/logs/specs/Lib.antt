pub mod Names
pub mod Words
pub mod Cabinets
pub mod States
pub mod Steps
pub mod Stands
pub mod Surveys

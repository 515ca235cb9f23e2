pub mod Tables
pub mod Lists

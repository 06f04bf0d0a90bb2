pub mod Letters
pub mod Named
pub mod Searches

pub mod Named
pub mod Searches
pub mod Truth

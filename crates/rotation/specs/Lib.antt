pub mod Laws
pub mod Listing
pub mod Robin
pub mod Turns
pub mod Lawful

pub mod Decoding
pub mod Rehearsing

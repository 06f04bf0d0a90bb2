pub mod Decoding
pub mod Options

mod Cycles
mod Entries
pub mod Leaders

mod Examples
mod Invariant
mod Keeping
mod Outcomes
mod Runs
pub mod Seating
pub mod Theorem

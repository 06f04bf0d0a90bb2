pub mod Calls
pub mod Held
pub mod Marked
pub mod Safety
pub mod Seated
pub mod State

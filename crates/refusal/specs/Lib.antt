pub mod Numbers
pub mod Outcomes
pub mod Reasons
pub mod Sentences

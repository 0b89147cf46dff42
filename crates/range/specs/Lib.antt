pub mod Answers
pub mod Ranges

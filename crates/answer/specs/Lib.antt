pub mod Standard
pub mod Answers

pub mod Answers
pub mod Tristates

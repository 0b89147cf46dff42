pub mod Instructions
pub mod Records

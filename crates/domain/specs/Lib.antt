pub mod Answers
pub mod Facts
pub mod Lawful
pub mod Onward
pub mod RangeLaws
pub mod TristateLaws

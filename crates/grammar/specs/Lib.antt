pub mod Names
pub mod Links
pub mod Reading
pub mod Refusals
pub mod Kinds
pub mod Causes

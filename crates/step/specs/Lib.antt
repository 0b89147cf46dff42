pub mod Causes
pub mod Needs
pub mod Rows
pub mod Transfer
pub mod Changes
pub mod Lacks

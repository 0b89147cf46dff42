pub mod Marked
pub mod Entries
pub mod Scopes
pub mod Passes

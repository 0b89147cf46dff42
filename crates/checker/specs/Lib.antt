pub mod Calls
pub mod Memories
pub mod Refusals
pub mod Rules
pub mod Verdicts

pub mod Bytes
pub mod Counts
pub mod Keeping
pub mod Layouts
pub mod Places
pub mod Sizes
pub mod Validity
pub mod Moving

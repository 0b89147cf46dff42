pub mod Exact
pub mod Sound
pub mod Walk

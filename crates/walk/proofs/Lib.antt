pub mod Sending
pub mod Arrivals
pub mod Whole
pub mod Readings
mod Ways

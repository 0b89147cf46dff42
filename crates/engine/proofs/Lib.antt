pub mod Driving
pub mod Endings
pub mod Loading
pub mod Moves
pub mod Untouched
pub mod Within

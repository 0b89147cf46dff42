pub mod Refusals
pub mod Lines
pub mod Texts
pub mod Printing

pub mod Sets
pub mod Ternary
pub mod Widths
pub mod Words

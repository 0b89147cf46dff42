pub mod Words
pub mod Operands
pub mod Statements
pub mod Spelled

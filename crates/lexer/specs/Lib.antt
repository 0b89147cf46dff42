pub mod Characters
pub mod Foreign
pub mod Numbers
pub mod Lines
pub mod Fields

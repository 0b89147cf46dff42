pub mod Tables
pub mod Machine
pub mod Memory
pub mod Valid
pub mod Props

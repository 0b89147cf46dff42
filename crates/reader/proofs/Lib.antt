pub mod Surveys
pub mod Linking
pub mod Tails
pub mod Tables

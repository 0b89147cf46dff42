pub mod Shows
pub mod Fits
pub mod Items
pub mod Firsts

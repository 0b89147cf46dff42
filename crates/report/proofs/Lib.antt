mod Rows
mod Fields

pub mod Between
pub mod Rows

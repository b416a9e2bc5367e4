pub mod Units
pub mod Patterns

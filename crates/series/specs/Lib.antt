pub mod Fractions
pub mod Series
pub mod Working

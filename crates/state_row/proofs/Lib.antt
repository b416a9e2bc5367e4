pub mod Finite
pub mod Storing
pub mod Back
pub mod Parts
pub mod Flags

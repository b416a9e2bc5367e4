pub mod Storing
pub mod Back
mod Runs

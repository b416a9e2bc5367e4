mod Halves
pub mod OneAnswer
pub mod Constants
pub mod OnePass
pub mod Uncapped
mod Examples

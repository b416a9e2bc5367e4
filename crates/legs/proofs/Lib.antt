pub mod FlagNumbers
pub mod Laws
pub mod Marks
pub mod OneAnswer
mod Filling
pub mod OnePass

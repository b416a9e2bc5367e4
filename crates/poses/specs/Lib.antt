pub mod Decimals
pub mod Json
pub mod How
pub mod Names
pub mod Answers
pub mod Reading
pub mod Gathering
pub mod Writing

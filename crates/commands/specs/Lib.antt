pub mod Constants
pub mod Times
pub mod How
pub mod Tripods
pub mod Answers
pub mod Command

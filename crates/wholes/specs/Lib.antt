pub mod Wholes
pub mod Answers

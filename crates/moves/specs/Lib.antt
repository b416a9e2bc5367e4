pub mod Distance
pub mod Moving
pub mod Answers
pub mod Refusals
pub mod Entries
pub mod Iterators

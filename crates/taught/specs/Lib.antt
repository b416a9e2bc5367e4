pub mod Answers
pub mod Map
pub mod Room
pub mod How

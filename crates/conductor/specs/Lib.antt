pub mod States
pub mod Answers
pub mod Conduct
pub mod How

pub mod Walk
pub mod How
pub mod Reach
pub mod Answers
pub mod Swing

pub mod Configured
pub mod Degrees
pub mod Answers
pub mod Inverse
pub mod Strict
pub mod Forward
pub mod How

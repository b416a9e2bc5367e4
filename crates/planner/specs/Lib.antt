pub mod Turns
pub mod Plan
pub mod Entry
pub mod How

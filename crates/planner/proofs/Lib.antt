mod Bits
mod Together
pub mod Within
pub mod Marks
pub mod Finite
pub mod LetIn

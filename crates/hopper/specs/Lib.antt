pub mod Numbers
pub mod Legs
pub mod FootMoves
pub mod Steps
pub mod Joints
pub mod Taught
pub mod Wholes

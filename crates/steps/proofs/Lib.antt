mod Bits
mod Legs
mod OnePass
mod Uncapped
pub mod Paces
pub mod Times
pub mod Within
pub mod Distances
pub mod FootByFoot
pub mod Taken
pub mod Ends
pub mod Marks
pub mod Examples
pub mod MarkExamples
pub mod Straight
pub mod Done
pub mod OneAnswer
pub mod Told
pub mod Held

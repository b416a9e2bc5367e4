mod Arithmetic
mod Few
mod Coordinate
mod Neighbours
mod Far
pub mod Aim
mod Fits
mod Descent
pub mod Keeps
mod SquareRoots
mod Components
mod Passing
pub mod Nearer
pub mod Steps
pub mod Given
pub mod Loop
mod OnePass
pub mod Counted
pub mod Door
pub mod Feet
pub mod Marks
pub mod Table
pub mod OneAnswer
pub mod Trail
pub mod Settled
pub mod Swing
pub mod Unrefused
pub mod Ends
pub mod Rounds
mod Strides
mod Spans
mod Reached
mod Share
mod Outlasted
mod SlowOnes
pub mod Examples

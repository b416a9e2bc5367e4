pub mod OnePass
mod LegsTold
pub mod FirstLeg
pub mod TwoTests
pub mod Sides
pub mod Reach
pub mod Within
pub mod OneAnswer
pub mod OneLeg
pub mod Laws
pub mod Told
pub mod Finite
pub mod Strict
mod Examples
mod ReachExamples

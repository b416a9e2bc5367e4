pub mod OneAnswer
pub mod PointsUnmoved
pub mod Bands
mod Examples

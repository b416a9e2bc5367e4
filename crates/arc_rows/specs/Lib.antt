pub mod ArcTangent
pub mod ArcSine

pub mod Kept
mod Others
pub mod Bytes
pub mod Chunks
pub mod Stretches
pub mod Pulling
pub mod InParts
pub mod Total
pub mod Alike
pub mod Examples

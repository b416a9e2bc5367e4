mod Apart
mod Rounding
mod SidewaysParts
mod UpwardsParts
mod Wholes
pub mod Near
pub mod Sideways
pub mod Wave
mod Sine
pub mod Upwards
pub mod Ends
pub mod Permitted
pub mod Theorem
pub mod Examples

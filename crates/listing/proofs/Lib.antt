pub mod Asking
pub mod Blocks
pub mod ReadBack
pub mod Feeding
mod Stretches
pub mod AnyCut
pub mod OneListing
pub mod Overlong
pub mod PartsExamples

pub mod Seen
pub mod Rule
pub mod Totals
pub mod Step
pub mod Parts
pub mod Stretch

mod Values
pub mod Centred
mod Small
mod Rest
pub mod Entries
mod Turn
mod Whole
mod Differences
mod SignedSums
mod Counts
pub mod Unrounded
pub mod Sharp
pub mod Fits
pub mod Bands
pub mod Examples
mod Filled

mod Reading
pub mod Decimal
pub mod Numerals
mod Widths
mod Places
mod Values
pub mod Exact
pub mod Counts
mod Rows
pub mod Records
pub mod Listings
pub mod Versions
pub mod Cutting
pub mod Clear

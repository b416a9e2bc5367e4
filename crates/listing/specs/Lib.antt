pub mod Asks
pub mod Listing
pub mod Block
pub mod Printer
pub mod Stretch

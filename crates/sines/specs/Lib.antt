pub mod How
pub mod Bands
pub mod Entries

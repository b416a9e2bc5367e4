pub mod Wedges
pub mod Entries
pub mod How

pub mod Layout
pub mod How

mod Each
mod RowTests
mod RowsHold
pub mod SineTests
mod SinesHold
pub mod Nearest
pub mod Rows
pub mod SineRows

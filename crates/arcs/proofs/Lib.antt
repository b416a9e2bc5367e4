mod TurnedBack
mod Rest
mod High
mod Low
mod Under
mod FirstOctant
mod PastOne
mod SignBits
mod Ratios
mod Carry
mod Follows
mod Octants
mod Transfer
mod RootNear
mod Beside
mod StrictOrder
mod Places
mod Turn
mod Atan2Rule
mod ArcRule
mod Upright
mod Results
mod Atan2Band
mod ArcBand
mod Ranges
mod Tabled
mod SinesTabled
pub mod Bands
pub mod Bounds
pub mod Examples
mod Answers

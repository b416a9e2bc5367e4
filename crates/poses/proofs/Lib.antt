-- numbers
pub mod WholeNearest
mod Parts
mod MovedUp
mod OneNearest
mod NoTie
mod Quotient
pub mod Reading
mod SignBit
pub mod Writing
pub mod ThereAndBack
mod NumberExamples
-- text
mod Places
mod Runs
mod Spans
mod NumbersExact
mod ValuesExact
-- names
mod Utf8
mod Characters
mod Closing
mod NamesExact
pub mod Named
pub mod Likely
-- members
mod ByCases
mod MembersExact
mod Folded
pub mod Gathered
-- writing
mod InOrder
mod WritingDoor
pub mod Written
-- whole
pub mod Exact
pub mod Answered
pub mod Said
mod TextExamples
pub mod OneAnswer
pub mod BackAgain
mod Examples

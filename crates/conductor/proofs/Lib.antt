pub mod Door
pub mod Calls
pub mod Accepted
pub mod Left
pub mod Setting
pub mod OneAnswer
pub mod Laws

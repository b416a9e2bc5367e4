pub mod Tests
pub mod Small
pub mod Conducting
pub mod Setting
pub mod OneAnswer
pub mod Laws
pub mod Examples

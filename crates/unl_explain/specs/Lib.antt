pub mod Reasons
pub mod Laws
pub mod Question
pub mod Line
pub mod Running

pub mod Line
pub mod Replica
pub mod Run
pub mod Turns

pub mod Editions
pub mod Continued
pub mod Reading
pub mod Writing
pub mod Orderly
pub mod Crossing
pub mod Histories

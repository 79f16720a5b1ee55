pub mod Commands
pub mod Lists
pub mod OwnBook
pub mod Ranges
pub mod Refusals
pub mod Values
pub mod Words

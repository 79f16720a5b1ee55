pub mod Toggles
pub mod Places
pub mod Next
pub mod Moving
pub mod Appending

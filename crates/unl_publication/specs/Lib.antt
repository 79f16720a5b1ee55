pub mod Rule
pub mod Meaning
pub mod Looking
pub mod Seen

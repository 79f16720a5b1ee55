mod Asking
mod Keeping
pub mod Turning

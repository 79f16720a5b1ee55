pub mod Named
mod Lawful
mod Inlined
mod Places
pub mod Sight

pub mod NoFloats
pub mod Finding
mod InChunks
mod Following
mod Alike
mod Shifts
pub mod AtPlaces
pub mod Projects
pub mod Tokens
mod Collecting

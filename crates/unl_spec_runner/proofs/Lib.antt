pub mod Counting
pub mod NoFloats
pub mod LineBytes

pub mod Variant
pub mod Laws

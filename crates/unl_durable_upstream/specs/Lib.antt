pub mod Arguments
pub mod Beginning
pub mod Databases
pub mod Faults
pub mod Serving

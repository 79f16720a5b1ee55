pub mod Evaluation
pub mod Laws
pub mod Decision

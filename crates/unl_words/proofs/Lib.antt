mod Contexts
mod Differences
mod Faults
pub mod Known
mod LastSplit
mod Named
mod Numbers
mod Options
mod OwnTokens
mod Simple

pub mod Lines
pub mod Silent
pub mod Turns
pub mod Whole
pub mod ReadingWhole
pub mod Outcomes

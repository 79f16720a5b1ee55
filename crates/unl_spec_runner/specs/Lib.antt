pub mod Expected
pub mod TestFile
pub mod Report
pub mod Steps
pub mod Check

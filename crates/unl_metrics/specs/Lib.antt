pub mod Hours
pub mod Reports
pub mod Book
pub mod Bulk
pub mod Readable

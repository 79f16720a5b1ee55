pub mod Books
pub mod VerdictLines
pub mod RefusalLemmas
pub mod Slots
pub mod LineSteps
pub mod Rising
pub mod Delivering

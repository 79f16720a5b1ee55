pub mod Handling
pub mod Conversation
pub mod Exchange
pub mod ServingDoor
pub mod Linked
pub mod Links
pub mod Receive

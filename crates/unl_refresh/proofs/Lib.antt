pub mod Leaving
mod Receiving
mod NextReply
mod Asked
pub mod Connecting
mod SlotParameters
mod TurnsTaken
mod Weights
mod Conserving
mod Merging
mod Sent
pub mod Delivering

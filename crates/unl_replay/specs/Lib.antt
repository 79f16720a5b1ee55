pub mod Refusals
pub mod Forms
pub mod Replay
pub mod Effect
pub mod Delivery
pub mod Replayed

pub mod AskedLemmas
mod CompleteLemmas
mod ConversationLemmas
mod ExchangeLemmas
pub mod DoorLemmas
mod ReachesLemmas
mod ReceiveLemmas
pub mod ShowsLemmas

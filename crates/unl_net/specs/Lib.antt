pub mod Buffers
pub mod Doors
pub mod EndedConnections
pub mod Exchanges
pub mod LoggedText
pub mod Moments
pub mod Phases
pub mod StatusLogs

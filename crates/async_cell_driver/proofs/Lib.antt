pub mod CoreCalls
pub mod Logs
pub mod Settled
pub mod TaskList
pub mod Words

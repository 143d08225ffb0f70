pub mod IsStep
pub mod Polled
pub mod Stored
pub mod Waiting

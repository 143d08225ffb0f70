pub mod Answering
pub mod Counting
pub mod Outcomes
pub mod Recording

pub mod Follower
pub mod History
pub mod IsStep
pub mod State
pub mod Step

pub mod Calls
pub mod Taken
pub mod Waits

pub mod Facts
pub mod History
pub mod Legal
pub mod Machine
pub mod Refusal
pub mod Taken

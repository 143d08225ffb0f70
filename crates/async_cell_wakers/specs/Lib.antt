pub mod Named
pub mod Place
pub mod WaitList

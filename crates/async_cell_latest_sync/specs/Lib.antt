pub mod Found
pub mod InOrder
pub mod Life
pub mod Names

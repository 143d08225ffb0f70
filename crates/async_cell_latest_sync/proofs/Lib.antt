pub mod InOrder
pub mod Lives
pub mod Polled
pub mod Words

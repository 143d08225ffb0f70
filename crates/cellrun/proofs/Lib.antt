pub mod Calls
pub mod Reading
pub mod Words
pub mod Written

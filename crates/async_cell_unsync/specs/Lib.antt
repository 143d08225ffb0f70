pub mod Names
pub mod Owned
pub mod Refused
pub mod Source

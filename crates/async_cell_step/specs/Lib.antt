pub mod Deferred
pub mod Rule
pub mod Seat
pub mod Upgrade

mod Audited
mod NotForgotten
mod StillWaits
mod TwoPolls
pub mod InOrder

pub mod CoveredWakers
pub mod JoinedHistories
pub mod Versions
pub mod Words

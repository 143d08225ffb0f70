pub mod Asked
pub mod DriverState
pub mod Drives
pub mod History
pub mod Log
pub mod Mark
pub mod Settle

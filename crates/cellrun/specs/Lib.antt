pub mod CallPrints
pub mod Command
pub mod Lines
pub mod Output
pub mod Script

pub mod CountSteps
pub mod LogSteps
pub mod Words

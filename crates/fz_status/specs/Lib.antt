pub mod Codes
pub mod Errors
pub mod FaultLines
pub mod Refusals
pub mod Words

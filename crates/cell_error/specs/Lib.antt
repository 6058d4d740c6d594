pub mod Errors
pub mod Cuts
pub mod Means

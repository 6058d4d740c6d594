pub mod Runs
pub mod Images
pub mod Stepping
pub mod Taking
mod Bytes
pub mod Algebra
pub mod Fitting
pub mod Endings
pub mod RuleParts

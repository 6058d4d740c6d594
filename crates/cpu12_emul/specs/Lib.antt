pub mod Image
pub mod Step
pub mod Take
pub mod Run
pub mod Simulation
pub mod Fits
pub mod Ruling

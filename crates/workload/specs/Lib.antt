pub mod Draws
pub mod Blocks
pub mod Texts
pub mod Workloads
pub mod Laws

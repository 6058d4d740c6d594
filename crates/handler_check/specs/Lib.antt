pub mod Cut
pub mod Paths
pub mod Accepted
pub mod Faults
pub mod PathSummaries
pub mod Judging
pub mod Images
pub mod Running

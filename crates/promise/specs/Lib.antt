pub mod Bench
pub mod FastRuns
pub mod Laws
pub mod OneRun
pub mod OtherRuns
pub mod Promise
pub mod Turns

pub mod Accepted
pub mod Commands
pub mod Done
pub mod Judged
pub mod Keeping
pub mod Others
pub mod Reads
pub mod Runs

pub mod Samples
pub mod Forms
pub mod SoundWatchedProof
pub mod Rows
pub mod Answering

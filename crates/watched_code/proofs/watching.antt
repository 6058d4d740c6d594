-- A firmware whose tables are watched: the check before EVAL, and what it leads to.
pub mod Laws
pub mod Checksums
pub mod Adding
pub mod Segments
pub mod Checking
pub mod Defaults
pub mod Sampling
pub mod Fronts
pub mod Tables
pub mod Located
pub mod Law
pub mod Answering
pub mod Emitting

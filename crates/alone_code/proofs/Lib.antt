pub mod runs
pub mod AlikeLemmas
pub mod Algebra
pub mod Parts
pub mod Words

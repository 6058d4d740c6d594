pub mod turns
pub mod AlikeLemmas
pub mod Words

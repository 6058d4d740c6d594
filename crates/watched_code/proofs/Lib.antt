pub mod watching
pub mod Words

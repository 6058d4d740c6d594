pub mod Plain
pub mod Rows
pub mod Counts
pub mod Tops

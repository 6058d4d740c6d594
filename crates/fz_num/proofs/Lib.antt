pub mod Algebra

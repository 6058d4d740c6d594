pub mod Algebra
pub mod Stretching
pub mod Within
pub mod Spared
pub mod Serving
pub mod PortBytes
pub mod Moments

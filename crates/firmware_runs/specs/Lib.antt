pub mod Facts
pub mod Instructions
pub mod Within
pub mod Ports

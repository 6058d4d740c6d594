-- One instruction of EVAL, and executions of them.
pub mod Addresses
pub mod Memory
pub mod Flags
pub mod Decoding
pub mod Stepping
pub mod Instructions
pub mod Leaving

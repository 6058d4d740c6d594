pub mod MemoryMaps
pub mod Images
pub mod Faults
pub mod Running
pub mod Standing
pub mod Alike

-- Items that go up stand in the memory of their image.
pub mod Standing
pub mod GivenBytes
pub mod MemoryBytes
pub mod Located
pub mod Founding

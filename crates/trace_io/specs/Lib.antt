pub mod FirstRows
pub mod Traces
pub mod OneReading

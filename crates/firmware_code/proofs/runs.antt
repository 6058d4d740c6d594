-- From an image to where its code waits, to EVAL and back.
-- From an image to where its code waits, to EVAL and back.
pub mod Stepping
pub mod Calling
pub mod Framing
pub mod FreeBytes
pub mod Placing
pub mod Founding
pub mod Arriving
pub mod Standing
pub mod Uninterrupted

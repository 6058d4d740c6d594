-- From an image to the answers of a list of samples.
-- From an image to the answers of a list of samples.
pub mod Framing
pub mod Sampling
pub mod Law
pub mod Uninterrupted

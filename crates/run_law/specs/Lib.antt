pub mod Forms
pub mod Uninterrupted
pub mod Soundness
pub mod Following
pub mod Moments
pub mod Steps

pub mod Images
pub mod Runs
pub mod Lines
pub mod Texts
pub mod Reading
pub mod Laws

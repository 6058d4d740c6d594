pub mod Firmwares
pub mod Laws
pub mod Answers
pub mod Uninterrupted

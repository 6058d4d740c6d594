pub mod Scripts
pub mod Places
pub mod Flags
pub mod Showing
pub mod Going
pub mod Noting

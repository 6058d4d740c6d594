pub mod Checksums
pub mod WatchedCode
pub mod Watched
pub mod Alike

pub mod Debug
pub mod Generate
pub mod Run
pub mod Judged

pub mod Meanings
pub mod Tokens
pub mod Lexing
pub mod Cuts
pub mod Scale
pub mod Offsets

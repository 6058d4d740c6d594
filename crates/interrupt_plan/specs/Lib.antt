pub mod Plans
pub mod Rows
pub mod Posts
pub mod Levels
pub mod OneReading
pub mod Upsets
pub mod UpsetTexts

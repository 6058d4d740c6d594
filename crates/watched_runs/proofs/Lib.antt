pub mod UsedLaws
pub mod Answers
pub mod AtMoments
pub mod Changes
pub mod WatchedRows
pub mod Places
pub mod Samples
pub mod Shown

pub mod ScriptLemmas
pub mod PlaceLemmas
pub mod GoingLemmas
pub mod NotingLemmas

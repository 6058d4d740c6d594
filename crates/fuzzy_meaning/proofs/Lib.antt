pub mod BlockLemmas
pub mod ConditionLemmas
pub mod Algebra
pub mod ShareLemmas
pub mod ExampleLemmas
pub mod DegreeLemmas
pub mod PlaceLemmas
pub mod HeldLemmas

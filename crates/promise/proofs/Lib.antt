pub mod AcceptedLemmas
pub mod BenchLemmas
pub mod FastLemmas
pub mod OneRunLemmas
pub mod OtherLemmas
pub mod PrintedLemmas
pub mod PromiseLemmas
pub mod TurnLemmas

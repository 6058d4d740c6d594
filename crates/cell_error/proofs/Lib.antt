pub mod Tilts
pub mod Extremes
pub mod Withins
pub mod Covering
pub mod MeanLemmas
pub mod Existence

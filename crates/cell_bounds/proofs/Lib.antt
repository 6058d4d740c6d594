pub mod Algebra
pub mod CellLemmas
pub mod WalkLemmas
pub mod NarrowLemmas
pub mod ClaimLemmas
pub mod JudgedLemmas

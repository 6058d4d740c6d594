pub mod RowLemmas
pub mod Algebra
pub mod TraceLemmas
pub mod ApartLemmas
pub mod JudgedLemmas

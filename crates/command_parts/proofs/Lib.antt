pub mod Algebra
pub mod CertLemmas
pub mod HandlerLemmas
pub mod ImageLemmas
pub mod NumberLemmas
pub mod ReadingLemmas
pub mod JudgedLemmas

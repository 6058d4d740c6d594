pub mod AnswerLemmas
pub mod DebugLemmas
pub mod GenerateLemmas
pub mod JudgedLemmas
pub mod SumLemmas
pub mod Words

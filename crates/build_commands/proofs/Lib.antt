pub mod JudgedLemmas
pub mod RecordLemmas
pub mod SettledLemmas
pub mod WrittenLemmas

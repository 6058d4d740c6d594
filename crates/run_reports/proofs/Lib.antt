pub mod Algebra
pub mod FaultlessRows
pub mod InputLemmas
pub mod NearRows
pub mod MailboxAnswers
pub mod ReportLemmas
pub mod JudgedLemmas

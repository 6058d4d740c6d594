pub mod FormLemmas
pub mod HandledLemmas
pub mod TwoLevelLemmas
pub mod TwoLevelLines
pub mod MailboxLemmas
pub mod WatchedLemmas
pub mod Words

-- The mailbox form, from its image to its turns and its uninterrupted answers.
-- The mailbox form, from its image to its turns and its uninterrupted answers.
pub mod Posting
pub mod Looking
pub mod Copying
pub mod Turning
pub mod Founding
pub mod Law
pub mod Answering
pub mod FewSteps

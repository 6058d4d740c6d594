pub mod Mailboxes
pub mod Turns
pub mod SampleTurns
pub mod Laws

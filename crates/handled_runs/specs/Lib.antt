pub mod Open
pub mod Joint
pub mod Forms
pub mod Answering
pub mod SoundHandledProof

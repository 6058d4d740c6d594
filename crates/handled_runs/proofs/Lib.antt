mod Beginnings
mod HandledAnswers
pub mod States
mod Returns
mod JointBytes

-- The phases of EVAL, each from where it begins to where it ends.
pub mod Fuzzify
pub mod Filling
pub mod Averaging
pub mod Quotients
pub mod RuleMemory
pub mod Ruling
pub mod SlotValues
pub mod RuleFacts
pub mod Evaluating
pub mod Words
pub mod Outputs
pub mod Operands
pub mod Law

-- The plain algebra of addresses that are hidden or free, of SP, of states and their executions, of a word and the answers
-- in memory, of items with the vectors behind them, and of a firmware's parts, which the crates above use.
pub use Rattle.firmware_code.proofs.runs.Stepping.{hidden_less, high_shown, in_room, low_shown, not_at, sp_near}
pub use Rattle.firmware_code.proofs.runs.Stepping.{steady_of}
pub use Rattle.firmware_code.proofs.runs.Framing.{answer_room, idles, not_ready, pushed_bytes, pushed_word}
pub use Rattle.firmware_code.proofs.runs.{FreeBytes.not_free, Placing.whole_is_short, Placing.whole_rises}
pub use Rattle.firmware_code.proofs.runs.Uninterrupted.{arrival, count_from, uninterrupted, value_from, waits}
pub use Rattle.firmware_code.proofs.Parts.{firmware_with, of_parts}

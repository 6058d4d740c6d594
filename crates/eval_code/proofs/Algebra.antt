-- The plain algebra of addresses, bytes in memory, flags, sizes of code and its steps, which the crates above use.
pub use Rattle.eval_code.proofs.Sizes.{code_size, code_size-append, length-code_bytes, length-le-code_size}
pub use Rattle.eval_code.proofs.Few.{enough_steps}
pub use Rattle.eval_code.proofs.phases.Outputs.{places_few}
pub use Rattle.eval_code.proofs.phases.RuleMemory.{Below, From, apart_by, below_front, below_back}
pub use Rattle.eval_code.proofs.steps.Addresses.{each_more, shown_each, all_shown, six_each, written_shown}
pub use Rattle.eval_code.proofs.steps.Addresses.{hidden_unwritten}
pub use Rattle.eval_code.proofs.steps.Stepping.{written_low}
pub use Rattle.eval_code.proofs.steps.Decoding.{fit_append, decode_same, stands_back, instructions_stand}
pub use Rattle.eval_code.proofs.steps.Flags.{masked_tested, masked_four, masked_on, unmasked}
pub use Rattle.eval_code.proofs.steps.Flags.{zero_tested, zero_four}
pub use Rattle.eval_code.proofs.steps.Memory.{length-put, has_put, bytes_by, bytes_front, bytes_back, same_bytes}
pub use Rattle.eval_code.proofs.steps.Memory.{bytes_put_out, bytes_set_out, bytes_after_set, bytes_after_put}
pub use Rattle.eval_code.proofs.steps.Memory.{bytes_writes}
pub use Rattle.eval_code.proofs.steps.Memory.{high_set, high_put, high_writes, WriteBelow, below_more}

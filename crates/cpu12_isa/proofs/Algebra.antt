-- The plain algebra of acts, of lists of bytes, of registers and of bits, which the crates above use.
pub use Rattle.cpu12_isa.proofs.Acts.{outcome_bind, read_by_bind}
pub use Rattle.cpu12_isa.proofs.Agreements.{agree_self, agree_with, same_outcome, unwritten, length_writes}
pub use Rattle.cpu12_isa.proofs.Agreements.{shown_append, shown_left, shown_right}
pub use Rattle.cpu12_isa.proofs.Bits.{bit, bit_or_is, bit_and_is, same_ccr, fits_put, fits_opened}
pub use Rattle.cpu12_isa.proofs.Encoding.{opcode_is_byte}
pub use Rattle.cpu12_isa.proofs.Fitting.{leaves_outcome, bytes_at_fit}
pub use Rattle.cpu12_isa.proofs.Frames.{fits_with_sp, pulled_alike}
pub use Rattle.cpu12_isa.proofs.Placing.{place_of, read_placed, bytes_unwritten, bytes_split, same_bytes}
pub use Rattle.cpu12_isa.proofs.Masks.{masked_put, masked_opened, masked_tested, masked_four, masked_five}
pub use Rattle.cpu12_isa.proofs.Zeros.{zero_at}

-- The plain algebra of addresses, and of bytes with their addresses, that the crates above use.
pub use Rattle.cpu12_asm.proofs.Placing.{or_else, byte_at-append, byte_at-placed}
pub use Rattle.cpu12_asm.proofs.Writing.{highest, is_at-refl, is_at-other}

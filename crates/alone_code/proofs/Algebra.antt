-- The plain algebra of the memory map of a firmware that stands alone, and of its parts, which the crates above use.
pub use Rattle.alone_code.proofs.runs.Law.{leaves_main, main_apart, main_in_order, main_rises}
pub use Rattle.alone_code.proofs.Parts.{alone_is, alone_with}

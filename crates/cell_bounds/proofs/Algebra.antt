-- What the crates above cite of results.
pub use Rattle.cell_bounds.proofs.WalkLemmas.{more_ok}

-- The plain algebra of sums and of executions that the crates above use.
use Rattle.std.proofs.Common.{◌≡◌, ℕ, refl, inl, inr, ◌⊎◌, subst, sym}
use Rattle.cpu12_parts.specs.{declared.temps.Temps.Temps, Fits.FitsTemps, Laws.IsOff}
use Rattle.cpu12_parts.specs.declared.temps.Temps.TheVariants.{Free, Running, OnStack}
pub use Rattle.cpu12_parts.proofs.ExecutionLemmas.{execution_on, steps_append}
pub use Rattle.cpu12_parts.proofs.ExecutionLemmas.{Bounded, bounded_none, bounded_one, bounded_on, bounded_more}

-- sums run or do not
pub temps_cases : (t : Temps) → IsOff t ⊎ ((p : ℕ) × (w : ℕ) × (t ≡ Running p w))
temps_cases Free = inl (inl refl)
temps_cases OnStack = inl (inr refl)
temps_cases (Running p w) = inr (p, w, refl)

-- sums that do not run fit
pub off_fits : (t : Temps) → IsOff t → FitsTemps t
off_fits t (inl e) = subst FitsTemps (sym e) tt
off_fits t (inr e) = subst FitsTemps (sym e) tt

-- The free bytes leave a memory map alone.
use Rattle.firmware_code.proofs.Words.{ℕ, ◌<◌, ◌≡◌, ◌≤◌, ◌⊎◌, arith, false, inl, inr, nat_tests, Reads, refl, Writes}
use Rattle.eval_code.specs.MemoryMaps.{main_map}
use Rattle.cpu12_isa.specs.Regions.{is_free}
use Rattle.firmware_code.specs.Arrivals.{FreeBytesLeave}

-- what lies below them or above is not free
pub not_free : (at : ℕ) → (at < 0x1800) ⊎ (0x1FE0 ≤ at) → is_free at ≡ false
not_free at (inl h) = grind (arith, nat_tests)
not_free at (inr h) = grind (arith, nat_tests)

free_read : (at : ℕ) → Reads main_map at → is_free at ≡ false
free_read at (inl o) = not_free at (inl (omega (arith, o.1)))
free_read at (inr (inl o)) = not_free at (inl (omega (arith, o.1)))
free_read at (inr (inr (inl o))) = not_free at (inr (omega (arith, o.0)))
free_read at (inr (inr (inr (inl o)))) = not_free at (inr (omega (arith, o.0)))
free_read at (inr (inr (inr (inr (inl o))))) = not_free at (inr (omega (arith, o.0)))
free_read at (inr (inr (inr (inr (inr (inl o)))))) = not_free at (inr (omega (arith, o.0)))
free_read at (inr (inr (inr (inr (inr (inr o)))))) = absurd o

free_written : (at : ℕ) → Writes main_map at → is_free at ≡ false
free_written at (inl o) = not_free at (inl (omega (arith, o.1)))
free_written at (inr (inl o)) = not_free at (inl (omega (arith, o.1)))
free_written at (inr (inr o)) = absurd o

pub free_leaves : FreeBytesLeave
free_leaves = record {
  ready = refl;
  reads = free_read;
  writes = free_written;
  stack = λ at from to. not_free at (inr from);
  code = λ at from to. not_free at (inr (omega arith));
  reset = λ at from to. not_free at (inr (omega arith));
}

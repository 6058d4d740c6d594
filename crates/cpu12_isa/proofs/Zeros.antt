-- A memory of zeros.
use Rattle.std.proofs.Common.{◌≡◌, ℕ, zero, suc, length, get_or, refl}
use Rattle.std.proofs.lemmas.List.{length-replicate}
use Rattle.cpu12_isa.specs.Memory.{zeros}

pub length_zeros : (n : ℕ) → length (zeros n) ≡ n
unfolding zeros
length_zeros n = length-replicate n 0

pub zero_at : (n at : ℕ) → get_or (zeros n) at 0 ≡ 0
unfolding zeros
zero_at zero at = refl
zero_at (suc n) zero = refl
zero_at (suc n) (suc at) = zero_at n at

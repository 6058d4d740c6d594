-- Bytes read one after the other.
use Rattle.std.proofs.Common.{◌≡◌, ℕ, zero, suc, ◌-◌, ◌<◌, List, [], ◌∷◌, ◌++◌, get_or, arith, append_assoc}
use Rattle.cpu12_isa.specs.Memory.{plus, from, bytes_at}

-- one byte more before the others
pub byte_more : (m : List ℕ) (at n : ℕ) (vs : List ℕ) → 0 < n
    → (vs ++ get_or m at 0 ∷ []) ++ bytes_at m (from (plus at 1) (n - 1)) ≡ vs ++ bytes_at m (from at n)
byte_more m at zero vs h = absurd (omega arith)
byte_more m at (suc n) vs h = let e : suc n - 1 ≡ n = omega arith in
    rw e (append_assoc vs (get_or m at 0 ∷ []) (bytes_at m (from (plus at 1) n)))

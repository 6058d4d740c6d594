-- Bytes that are written one after the other are read again.
use Rattle.std.proofs.Common.{◌≡◌, ℕ, zero, suc, ◌+◌, ◌%◌, ◌^◌, ◌<◌, ◌≤◌, Bool, List, [], ◌∷◌, ◌++◌, length, get_or}
use Rattle.std.proofs.Common.{refl, ap, sym, ◌∙◌, subst, arith, inl, inr, get_or-set_same}
use Rattle.std.proofs.lemmas.List.{length-set}
use Rattle.std.proofs.Math.ListN.{set}
use Rattle.cpu12_isa.specs.{Act.write_all, Agreement.Agree, Agreement.AllShown, Agreement.IsWritten}
use Rattle.cpu12_isa.specs.Memory.{plus, from, placed, bytes_at}
use Rattle.cpu12_isa.proofs.Agreements.{unwritten}

-- k places further on
step_far : (b k : ℕ) → (plus b 1 + k) % 2 ^ 16 ≡ (b + suc k) % 2 ^ 16
step_far b k = omega arith

-- the addresses that are written
pub place_of : (vs : List ℕ) (b at : ℕ) → b < 2 ^ 16 → IsWritten (placed b vs) at
    → (k : ℕ) × (k < length vs) × (at ≡ (b + k) % 2 ^ 16)
place_of [] b at f w = absurd w
place_of (v ∷ vs) b at f w = elim w [
  | inl e ↦ (0, omega arith, omega arith)
  | inr k ↦ let p = place_of vs (plus b 1) at (omega arith) k in (suc p.0, omega arith, p.2 ∙ step_far b p.0)
]

-- what was placed is read again
pub read_placed : (vs : List ℕ) (b : ℕ) (m : List ℕ) → b < 2 ^ 16 → length vs ≤ 2 ^ 16 → length m ≡ 2 ^ 16
    → bytes_at (write_all (placed b vs) m) (from b (length vs)) ≡ vs
read_placed [] b m f l s = refl
read_placed (v ∷ vs) b m f l s =
    let apart : IsWritten (placed (plus b 1) vs) b → ⊥ =
    λ w. (let p = place_of vs (plus b 1) b (omega arith) w in omega arith) in
    let head : get_or (write_all (placed (plus b 1) vs) (set m b v)) b 0 ≡ v =
    unwritten (placed (plus b 1) vs) (set m b v) b apart ∙ get_or-set_same m b v 0 (omega arith) in
    let tail = read_placed vs (plus b 1) (set m b v) (omega arith) (omega arith) (length-set m b v ∙ s) in
    cc

-- bytes that are not written stay
pub bytes_unwritten : (ws : List (ℕ × ℕ)) (m : List ℕ) (n at : ℕ) → at < 2 ^ 16
    → ((k : ℕ) → k < n → IsWritten ws ((at + k) % 2 ^ 16) → ⊥)
    → bytes_at (write_all ws m) (from at n) ≡ bytes_at m (from at n)
bytes_unwritten ws m zero at f h = refl
bytes_unwritten ws m (suc n) at f h =
    let here : (at + 0) % 2 ^ 16 ≡ at = omega arith in
    let first : get_or (write_all ws m) at 0 ≡ get_or m at 0 =
    unwritten ws m at (λ w. h 0 (omega arith) (subst (λ (k : ℕ). IsWritten ws k) (sym here) w)) in
    let rest : bytes_at (write_all ws m) (from (plus at 1) n) ≡ bytes_at m (from (plus at 1) n) =
    bytes_unwritten ws m n (plus at 1) (omega arith) (λ k l w.
    (let e : (plus at 1 + k) % 2 ^ 16 ≡ (at + suc k) % 2 ^ 16 = omega arith in
    h (suc k) (omega arith) (subst (λ (j : ℕ). IsWritten ws j) e w))) in
    cc

-- bytes in two runs
pub bytes_split : (m : List ℕ) (b n k : ℕ) → b < 2 ^ 16
    → bytes_at m (from b (n + k)) ≡ bytes_at m (from b n) ++ bytes_at m (from ((b + n) % 2 ^ 16) k)
bytes_split m b zero k h =
    let e : 0 + k ≡ k = omega arith in
    let f : (b + 0) % 2 ^ 16 ≡ b = omega arith in
    rw (e, f)
bytes_split m b (suc n) k h =
    let e : suc n + k ≡ suc (n + k) = omega arith in
    let f : (plus b 1 + n) % 2 ^ 16 ≡ (b + suc n) % 2 ^ 16 = omega arith in
    let r = bytes_split m (plus b 1) n k (omega arith) in
    ap (λ (j : ℕ). bytes_at m (from b j)) e
    ∙ ap (λ (l : List ℕ). get_or m b 0 ∷ l)
    (r ∙ ap (λ (j : ℕ). bytes_at m (from (plus b 1) n) ++ bytes_at m (from j k)) f)

-- bytes of memories that agree
pub same_bytes : (hidden : ℕ → Bool) (m n : List ℕ) → Agree hidden m n → (ats : List ℕ) → AllShown hidden ats
    → bytes_at m ats ≡ bytes_at n ats
same_bytes hidden m n a [] s = refl
same_bytes hidden m n a (at ∷ ats) s = let e = a.bytes at s.0 in let f = same_bytes hidden m n a ats s.1 in cc

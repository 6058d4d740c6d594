-- Hidden bytes of the stack.
use Rattle.std.proofs.Common.{◌≡◌, ℕ, zero, suc, ◌+◌, ◌-◌, ◌<◌, ◌≤◌, Bool, true, false, ◌&&◌, nat_lt, nat_le, List}
use Rattle.std.proofs.Common.{length, refl, sym, ◌∙◌, arith, inl, inr, ◌⊎◌}
use Rattle.std.proofs.lemmas.Bool.{or_parts, false≢true}
use Rattle.std.proofs.lemmas.Bool.Decides.{nat_tests}
use Rattle.cpu12_isa.specs.{Act.write_all, Agreement.Agree, Agreement.AllShown}
use Rattle.cpu12_isa.specs.Memory.{plus, from, placed}
use Rattle.cpu12_isa.specs.Regions.{stack_start, stack_end, is_hidden, LeavesStack}
use Rattle.cpu12_isa.proofs.{Agreements.unwritten, Agreements.length_writes, Placing.place_of}

-- what is hidden below a lower SP is so below a higher one
pub hidden_less : (open_to : ℕ → Bool) (low high at : ℕ) → low ≤ high → is_hidden open_to high at ≡ false
    → is_hidden open_to low at ≡ false
hidden_less open_to low high at l h =
    let p = or_parts (open_to at) (nat_le stack_start at && nat_lt at high) h in
    let q : (nat_le stack_start at && nat_lt at low) ≡ false = grind (arith, nat_tests, p.1) in
    rw (p.0, q)

pub agree_less : (open_to : ℕ → Bool) (low high : ℕ) (m n : List ℕ) → low ≤ high → Agree (is_hidden open_to low) m n
    → Agree (is_hidden open_to high) m n
agree_less open_to low high m n l a =
    record { size = a.size; bytes = λ at h. a.bytes at (hidden_less open_to low high at l h) }

-- a byte of the stack from SP on is shown
pub stack_shown : (open_to : ℕ → Bool) (sp at : ℕ) → LeavesStack open_to → stack_start ≤ at → at < stack_end → sp ≤ at
    → is_hidden open_to sp at ≡ false
stack_shown open_to sp at a lo hi le =
    let q : (nat_le stack_start at && nat_lt at sp) ≡ false = grind (arith, nat_tests) in
    elim (tests (open_to at)) [
      | inl t ↦ absurd (elim (a at t) [ inl k ↦ omega arith | inr k ↦ omega arith ])
      | inr f ↦ rw (f, q)
    ]
  where
    tests : (b : Bool) → (b ≡ true) ⊎ (b ≡ false)
    tests true = inl refl
    tests false = inr refl

pub shown_from : (open_to : ℕ → Bool) (sp at n : ℕ) → LeavesStack open_to → stack_start ≤ at → at + n ≤ stack_end
    → sp ≤ at → AllShown (is_hidden open_to sp) (from at n)
shown_from open_to sp at zero a lo hi le = tt
shown_from open_to sp at (suc n) a lo hi le = (
  stack_shown open_to sp at a lo (omega arith) le,
  shown_from open_to sp (plus at 1) n a (omega arith) (omega arith) (omega arith),
)

-- what is written on the stack below SP is hidden
pub push_agrees : (open_to : ℕ → Bool) (sp k : ℕ) (vs m : List ℕ) → sp ≤ stack_end → length vs ≡ k
    → stack_start + k ≤ sp → Agree (is_hidden open_to sp) (write_all (placed (sp - k) vs) m) m
push_agrees open_to sp k vs m hi l lo = record {
  size = length_writes (placed (sp - k) vs) m;
  bytes = λ at h. unwritten (placed (sp - k) vs) m at (λ w.
      (let p = place_of vs (sp - k) at (omega arith) w in
      let q = or_parts (open_to at) (nat_le stack_start at && nat_lt at sp) h in
      let t : (nat_le stack_start at && nat_lt at sp) ≡ true = grind (arith, nat_tests, p.1, p.2) in
      false≢true (sym q.1 ∙ t)));
}

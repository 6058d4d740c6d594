-- What a handler writes, beside what is written to free bytes alone.
use Rattle.handler_check.proofs.Words.{[], ◌&&◌, ◌++◌, ◌+◌, ◌<◌, ◌∙◌, ◌∷◌, ◌≡◌, ◌≤◌, ◌⊎◌, addresses, Agree, AreOpen}
use Rattle.handler_check.proofs.Words.{arith, Begins, Bool, bytes_at, code_bytes, encode_of, false, false≢true}
use Rattle.handler_check.proofs.Words.{get_or, HasCode, inl, inr, Instr, is_free, is_hidden, IsIn, IsWritten, length}
use Rattle.handler_check.proofs.Words.{length-set, List, nat_le, nat_lt, nat_tests, or_parts, pairs_of, plus, refl}
use Rattle.handler_check.proofs.Words.{set, six_from, size_of, subst, sym, true, unwritten, Write, write_all}
use Rattle.handler_check.proofs.Words.{WritesAgree, ℕ}
use Rattle.std.proofs.{Common.get_or-set_other}
use Rattle.handler_check.proofs.Places.{within}

-- the stack's bytes below an address are hidden
abbrev pub under : ℕ → ℕ → Bool
under base = is_hidden (λ at. false) base

-- a free byte, or one of the stack below an address
abbrev pub IsFine : ℕ → ℕ → Type 0
IsFine base at = (is_free at ≡ true) ⊎ ((8160 ≤ at) × (at < base))

abbrev pub AllFine : ℕ → List (ℕ × ℕ) → Type 0
AllFine base [] = Unit {0}
AllFine base (w ∷ ws) = IsFine base w.0 × AllFine base ws

pub free_is : (at : ℕ) → is_free at ≡ true → (6144 ≤ at) × (at < 8160)
free_is at h = (grind (arith, nat_tests), grind (arith, nat_tests))

pub fine_by : (base : ℕ) (ws : List (ℕ × ℕ)) → ((at : ℕ) → IsIn (addresses ws) at → IsFine base at) → AllFine base ws
fine_by base [] f = tt
fine_by base (w ∷ ws) f = (f w.0 (inl refl), fine_by base ws (λ at k. f at (inr k)))

-- a write to a hidden byte
hides : (base i v : ℕ) (m n : List ℕ) → 8160 ≤ i → i < base → Agree (under base) m n → Agree (under base) (set m i v) n
hides base i v m n lo hi a = record {
  size = length-set m i v ∙ a.size;
  bytes = λ at h. get_or-set_other m i at v 0 (λ e. other at h e) ∙ a.bytes at h;
}
  where
    other : (at : ℕ) → under base at ≡ false → at ≡ i → ⊥
    other at h e = let t : (nat_le 8160 at && nat_lt at base) ≡ true = grind (arith, nat_tests) in
        false≢true (sym (or_parts false (nat_le 8160 at && nat_lt at base) h).1 ∙ t)

-- writes of a handler, and those of them that are to free bytes
pub record Shadowed (base : ℕ) (m n : List ℕ) : Type 0 where
  pub writes : List Write
  pub free : AreOpen is_free writes
  pub mem : Agree (under base) m (write_all (pairs_of writes) n)

pub shadow : WritesAgree → (base : ℕ) (ws : List (ℕ × ℕ)) (m n : List ℕ) → Agree (under base) m n → AllFine base ws
    → Shadowed base (write_all ws m) n
shadow agree base [] m n a f = record { writes = []; free = tt; mem = a }
shadow agree base (w ∷ ws) m n a f = elim f.0 [
  | inl open_to ↦ (let r =
      shadow agree base ws (set m w.0 w.1) (set n w.0 w.1)
      (agree ((w.0, w.1) ∷ []) m n (under base) (under base) a (λ at h. inl h)) f.1 in
      record { writes = record { at = w.0; value = w.1 } ∷ r.writes; free = (open_to, r.free); mem = r.mem })
  | inr low ↦ shadow agree base ws (set m w.0 w.1) n (hides base w.0 w.1 m n low.0 low.1 a) f.1
]

-- further writes to the shadow
pub write_append : (us ws : List Write) (m : List ℕ)
    → write_all (pairs_of ws) (write_all (pairs_of us) m) ≡ write_all (pairs_of (us ++ ws)) m
write_append [] ws m = refl
write_append (u ∷ us) ws m = write_append us ws (set m u.at u.value)

pub open_append : (us ws : List Write) → AreOpen is_free us → AreOpen is_free ws → AreOpen is_free (us ++ ws)
open_append [] ws f g = g
open_append (u ∷ us) ws f g = (f.0, open_append us ws f.1 g)

pub open_fine : (base : ℕ) (ws : List Write) → AreOpen is_free ws → AllFine base (pairs_of ws)
open_fine base [] f = tt
open_fine base (w ∷ ws) f = (inl f.0, open_fine base ws f.1)

-- bytes that are neither free nor of the stack stay
apart : (base : ℕ) (ws : List (ℕ × ℕ)) (at : ℕ) → base ≤ 8192 → AllFine base ws → (at < 6144) ⊎ (8192 ≤ at)
    → IsWritten ws at → ⊥
apart base [] at b f o w = absurd w
apart base (x ∷ ws) at b f o w = elim w [
  | inl e ↦ elim f.0 [
    | inl free ↦ (let r = free_is x.0 free in
        elim o [ inl l ↦ omega (arith, r.0, r.1) | inr l ↦ omega (arith, r.0, r.1) ])
    | inr low ↦ elim o [ inl l ↦ omega (arith, low.0, low.1) | inr l ↦ omega (arith, low.0, low.1) ]
  ]
  | inr k ↦ apart base ws at b f.1 o k
]

pub stays : (base : ℕ) (ws : List (ℕ × ℕ)) (m : List ℕ) (at : ℕ) → base ≤ 8192 → AllFine base ws
    → (at < 6144) ⊎ (8192 ≤ at) → get_or (write_all ws m) at 0 ≡ get_or m at 0
stays base ws m at b f o = unwritten ws m at (λ w. apart base ws at b f o w)

pub code_stays : (base : ℕ) (ws : List (ℕ × ℕ)) (m : List ℕ) (is : List Instr) → base ≤ 8192 → AllFine base ws
    → 16384 + length (code_bytes is) ≤ 20480 → HasCode is m → HasCode is (write_all ws m)
code_stays base ws m is b f ends code at i w =
    let r = within 16384 is at i w in
    let low : 16384 ≤ at = r.0 in
    let high : at + size_of i ≤ 16384 + length (code_bytes is) = r.1 in
    let p : (k : ℕ) → 8192 ≤ k → get_or (write_all ws m) k 0 ≡ get_or m k 0 = λ k l. stays base ws m k b f (inr l) in
    let e0 = p at (omega arith) in
    let e1 = p (plus at 1) (omega arith) in
    let e2 = p (plus at 2) (omega arith) in
    let e3 = p (plus at 3) (omega arith) in
    let e4 = p (plus at 4) (omega arith) in
    let e5 = p (plus at 5) (omega arith) in
    let same : bytes_at (write_all ws m) (six_from at) ≡ bytes_at m (six_from at) = cc in
    subst (λ (bs : List ℕ). Begins bs (encode_of i)) (sym same) (code at i w)

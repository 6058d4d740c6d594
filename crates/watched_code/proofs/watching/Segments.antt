-- What stands where segments are, summed.
use Rattle.watched_code.proofs.Words.{[], ◌%◌, ◌+◌, ◌<◌, ◌==◌, ◌^◌, ◌∙◌, ◌∷◌, ◌≡◌, ◌≢◌, ◌≤◌, ◌⊎◌, ap, ap₂, arith}
use Rattle.watched_code.proofs.Words.{cases_eq, check_byte, false, get_or, get_or-set_other, get_or-set_same}
use Rattle.watched_code.proofs.Words.{HasBytes, inl, inr, length, List, nat_tests, refl, Segment, segment_bytes, set}
use Rattle.watched_code.proofs.Words.{suc, sum, sum_by-cons, sym, true, zero, ℕ, ⊎_elim}
use Rattle.std.proofs.{lemmas.List.Sums.sum_by-append}
use Rattle.watched_code.proofs.watching.Adding.{sum_from, sum_in}
use Rattle.watched_code.proofs.watching.Checksums.{unchanged_sum_is_zero, other_sum}

-- the segments stand in memory
abbrev pub Stand : List ℕ → List Segment → Type 0
Stand m [] = Unit {0}
Stand m (g ∷ gs) = HasBytes m g.at g.bytes × Stand m gs

sum_there : (m : List ℕ) (at : ℕ) (bs : List ℕ) → HasBytes m at bs → sum_from m at (length bs) ≡ sum bs
sum_there m at [] h = refl
sum_there m at (b ∷ bs) h =
    let rest = sum_there m (at + 1) bs h.1 in
    let more = sum_by-cons (λ (x : ℕ). x) b bs in
    let here = h.0 in
    omega arith

sum_all : (m : List ℕ) (gs : List Segment) → Stand m gs → sum_in m gs ≡ sum (segment_bytes gs)
sum_all m [] h = refl
sum_all m (g ∷ gs) h =
    let here = sum_there m g.at g.bytes h.0 in
    let rest = sum_all m gs h.1 in
    let more = sum_by-append (λ (x : ℕ). x) g.bytes (segment_bytes gs) in
    omega arith

pub stand_zero : (m : List ℕ) (gs : List Segment) → Stand m gs
    → (sum_in m gs + check_byte (segment_bytes gs)) % 2 ^ 8 ≡ 0
stand_zero m gs h = ap (λ (n : ℕ). (n + check_byte (segment_bytes gs)) % 2 ^ 8) (sum_all m gs h)
    ∙ unchanged_sum_is_zero (segment_bytes gs)

pub stand_passes : (m : List ℕ) (gs : List Segment) → Stand m gs
    → ((sum_in m gs + check_byte (segment_bytes gs)) % 2 ^ 8 == 0) ≡ true
stand_passes m gs h = let z = stand_zero m gs h in grind (arith, nat_tests)

-- one byte changed
sum_else : (m : List ℕ) (a v at n : ℕ) → (a < at) ⊎ (at + n ≤ a) → sum_from (set m a v) at n ≡ sum_from m at n
sum_else m a v at zero h = refl
sum_else m a v at (suc n) h =
    ap₂ (λ (x y : ℕ). x + y) (get_or-set_other m a at v 0 (⊎_elim (λ l e. omega arith) (λ r e. omega arith) h))
    (sum_else m a v (at + 1) n (⊎_elim (λ l. inl (omega arith)) (λ r. inr (omega arith)) h))

sum_changed : (m : List ℕ) (a v at n : ℕ) → at ≤ a → a < at + n → a < length m
    → sum_from (set m a v) at n + get_or m a 0 ≡ sum_from m at n + v
sum_changed m a v at zero lo hi size = absurd (omega arith)
sum_changed m a v at (suc n) lo hi size = elim (cases_eq a at) [
  | inl e ↦ (
      let here : get_or (set m a v) at 0 ≡ v = ap (λ (k : ℕ). get_or (set m a v) k 0) (sym e)
      ∙ get_or-set_same m a v 0 size in
      let was : get_or m at 0 ≡ get_or m a 0 = ap (λ (k : ℕ). get_or m k 0) (sym e) in
      let rest = sum_else m a v (at + 1) n (inl (omega arith)) in
      omega arith)
  | inr ne ↦ (
      let here : get_or (set m a v) at 0 ≡ get_or m at 0 = get_or-set_other m a at v 0 (λ q. ne (sym q)) in
      let rest = sum_changed m a v (at + 1) n (omega arith) (omega arith) size in
      omega arith)
]

-- segments one above another, and an address in one of them
abbrev pub Apart : ℕ → List Segment → Type 0
Apart from [] = Unit {0}
Apart from (g ∷ gs) = (from ≤ g.at) × Apart (g.at + length g.bytes) gs

abbrev pub Within : ℕ → Segment → Type 0
Within a g = (g.at ≤ a) × (a < g.at + length g.bytes)

abbrev pub In : ℕ → List Segment → Type 0
In a [] = ⊥
In a (g ∷ gs) = Within a g ⊎ In a gs

above : (a from : ℕ) (gs : List Segment) → Apart from gs → In a gs → from ≤ a
above a from [] h i = absurd i
above a from (g ∷ gs) h (inl i) = (let low = h.0 in let here = i.0 in omega arith)
above a from (g ∷ gs) h (inr i) = (let low = h.0 in let rest = above a (g.at + length g.bytes) gs h.1 i in omega arith)

pub sum_below : (m : List ℕ) (a v from : ℕ) (gs : List Segment) → Apart from gs → a < from
    → sum_in (set m a v) gs ≡ sum_in m gs
sum_below m a v from [] h lt = refl
sum_below m a v from (g ∷ gs) h lt =
    let low = h.0 in
    ap₂ (λ (x y : ℕ). x + y) (sum_else m a v g.at (length g.bytes) (inl (omega arith)))
    (sum_below m a v (g.at + length g.bytes) gs h.1 (omega arith))

sum_with : (m : List ℕ) (a v from : ℕ) (gs : List Segment) → Apart from gs → In a gs → a < length m
    → sum_in (set m a v) gs + get_or m a 0 ≡ sum_in m gs + v
sum_with m a v from [] h i size = absurd i
sum_with m a v from (g ∷ gs) h (inl i) size =
    let here = sum_changed m a v g.at (length g.bytes) i.0 i.1 size in
    let rest = sum_below m a v (g.at + length g.bytes) gs h.1 i.1 in
    omega arith
sum_with m a v from (g ∷ gs) h (inr i) size =
    let up = above a (g.at + length g.bytes) gs h.1 i in
    let here = sum_else m a v g.at (length g.bytes) (inr up) in
    let rest = sum_with m a v (g.at + length g.bytes) gs h.1 i size in
    omega arith

pub change_fails : (m : List ℕ) (a v from : ℕ) (gs : List Segment) → Stand m gs → Apart from gs → In a gs → a < length m
    → get_or m a 0 < 2 ^ 8 → v < 2 ^ 8 → v ≢ get_or m a 0
    → ((sum_in (set m a v) gs + check_byte (segment_bytes gs)) % 2 ^ 8 == 0) ≡ false
change_fails m a v from gs h apart i size byte fit ne =
    let other = other_sum (sum_in m gs) (sum_in (set m a v) gs) (check_byte (segment_bytes gs)) (get_or m a 0) v
    (stand_zero m gs h) (sum_with m a v from gs apart i size) byte fit ne in
    grind (arith, nat_tests)

-- Sums, one more.
use Rattle.std.proofs.Common.{◌≡◌, ◌<◌, ◌≤◌, ◌+◌, ◌-◌, ℕ, List, drop, get_or, length, map, take, sym}
use Rattle.std.proofs.Common.{◌∙◌, ap, arith}
use Rattle.std.proofs.Common.{length-drop}
use Rattle.std.specs.Prelude.{sum, sum_by}
use Rattle.std.proofs.lemmas.List.{get_or-drop}
use Rattle.std.proofs.lemmas.{List.Sums.sum-map, List.Sums.sum_by_more, Simd.map-map}

-- the sum of n elements from a place on, with the next
sum_more : (xs : List ℕ) (from n : ℕ) → from + n < length xs
    → sum (take (n + 1) (drop from xs)) ≡ sum (take n (drop from xs)) + get_or xs (from + n) 0
sum_more xs from n lt =
    sum_by_more (λ x. x) (drop from xs) n 0 (rw length-drop (omega (arith, lt)))
    ∙ ap (λ (m : ℕ). sum (take n (drop from xs)) + m) (get_or-drop from xs n 0)

-- the sum so far with the byte at an address more
pub next_sum : (mem : List ℕ) (from at total byte : ℕ) → from ≤ at → at < length mem → byte ≡ get_or mem at 0
    → total ≡ sum (take (at - from) (drop from mem)) → total + byte ≡ sum (take (at + 1 - from) (drop from mem))
next_sum mem from at total byte low high is so_far =
    let here : from + (at - from) ≡ at = omega (arith, low) in
    let next : at - from + 1 ≡ at + 1 - from = omega (arith, low) in
    let more = sum_more mem from (at - from) (omega (arith, low, high)) in
    ap (λ (n : ℕ). n + byte) so_far
    ∙ ap (λ (n : ℕ). sum (take (at - from) (drop from mem)) + n)
    (is ∙ ap (λ (p : ℕ). get_or mem p 0) (omega (arith, here)))
    ∙ sym more
    ∙ ap (λ (n : ℕ). sum (take n (drop from mem))) next

-- ---- over items as they are seen

sum_seen : {R S : Type 0} (seen : R → S) (f : S → ℕ) (rows : List R)
    → sum_by f (map seen rows) ≡ sum_by (λ r. f (seen r)) rows
sum_seen seen f rows =
    sym (sum-map f (map seen rows)) ∙ ap sum (map-map f seen rows) ∙ sum-map (λ r. f (seen r)) rows

-- a sum over the first n items, with the next
pub seen_more : {R S : Type 0} (seen : R → S) (f : S → ℕ) (rows : List R) (n : ℕ) (row : R) → n < length rows
    → row ≡ get_or rows n row
    → sum_by f (map seen (take (n + 1) rows)) ≡ sum_by f (map seen (take n rows)) + f (seen row)
seen_more {R} seen f rows n row inside is =
    let before = sum_seen seen f (take n rows) in
    let after = sum_seen seen f (take (n + 1) rows) in
    let more = sum_by_more (λ r. f (seen r)) rows n row inside in
    let same = ap (λ (r : R). f (seen r)) is in
    omega (arith, before, after, more, same)

-- Where the upset of a sample stands.
use Rattle.std.proofs.Common.{◌≡◌, ◌≢◌, ℕ, zero, suc, ◌<◌, ◌≤◌, true, false, List, [], ◌∷◌, length, refl, sym, ap}
use Rattle.std.proofs.Common.{Result, Ok, Err, None, slice_get, arith, inl, inr, ◌⊎◌}
use Rattle.std.specs.Prelude.{◌==◌, MatchResult, slice_index_or}
use Rattle.std.specs.List.Sorted.{IsSearchInRange, IsBinarySearchResult, IsNonDecreasingBy}
use Rattle.std.specs.Ordering.{nat_cmp, ordering_index}
use Rattle.std.proofs.lemmas.Bool.Decides.{nat_tests}
use Rattle.std.proofs.lemmas.Cmp.{ranked}
use Rattle.interrupt_plan.specs.{declared.upsets.Upset.Upset, Upsets.SamplesAscend}
use Rattle.watched_runs.specs.Samples.{AscendThroughout, change_in, change_of}

-- the sample of upset i
sample_at : List Upset → Upset → ℕ → ℕ
sample_at us d i = let u = slice_index_or us i d in u.sample

-- they rise
pub rise : (us : List Upset) → SamplesAscend us → AscendThroughout us
rise [] h i j d lt l = absurd (omega arith)
rise (a ∷ []) h i j d lt l = absurd (omega arith)
rise (a ∷ b ∷ rest) h i zero d lt l = absurd (omega arith)
rise (a ∷ b ∷ rest) h zero (suc zero) d lt l = h.0
rise (a ∷ b ∷ rest) h zero (suc (suc j)) d lt l =
    let first = h.0 in
    let more = rise (b ∷ rest) h.1 0 (suc j) d (omega arith) (omega arith) in
    omega (arith, first, more)
rise (a ∷ b ∷ rest) h (suc i) (suc j) d lt l = rise (b ∷ rest) h.1 i j d (omega arith) (omega arith)

is_sample : (u : Upset) (k : ℕ) → u.sample ≡ k → (u.sample == k) ≡ true
is_sample u k e = grind (arith, nat_tests)

other_sample : (u : Upset) (k : ℕ) → u.sample ≢ k → (u.sample == k) ≡ false
other_sample u k e = grind (arith, nat_tests)

-- the first upset of a sample gives its change
change_at : (us : List Upset) (d : Upset) (k i : ℕ) → i < length us → sample_at us d i ≡ k
    → ((j : ℕ) → j < i → sample_at us d j ≢ k) → change_in (slice_get us i) ≡ change_of k us
unfolding sample_at
change_at [] d k i lt e none = absurd (omega arith)
change_at (u ∷ us) d k zero lt e none = let t = is_sample u k e in rw t refl
change_at (u ∷ us) d k (suc i) lt e none =
    let t = other_sample u k (none 0 (omega arith)) in
    rw t (change_at us d k i (omega arith) e (λ j l. none (suc j) (omega arith)))

-- where there is none, there is no change
no_change : (us : List Upset) (d : Upset) (k : ℕ) → ((j : ℕ) → j < length us → sample_at us d j ≢ k)
    → change_of k us ≡ None
unfolding sample_at
no_change [] d k none = refl
no_change (u ∷ us) d k none =
    let t = other_sample u k (none 0 (omega arith)) in
    rw t (no_change us d k (λ j l. none (suc j) (omega arith)))

-- what a search for a sample finds
pub placed : (us : List Upset) (k : ℕ) (r : Result ℕ ℕ) → AscendThroughout us → IsSearchInRange r (length us)
    → IsBinarySearchResult (λ (u : Upset). nat_cmp u.sample k) us r
    → MatchResult r (λ i. change_in (slice_get us i) ≡ change_of k us) (λ i. change_of k us ≡ None)
unfolding sample_at
placed us k (Ok i) ascend within equal =
    let d : Upset = record { sample = 0; at = 0; value = 0 } in
    let here : sample_at us d i ≡ k = ranked _ k _ (sym (equal d)) in
    change_at us d k i within here (λ j l e. (let less = ascend j i d l within in omega (arith, less, here, e)))
placed us k (Err i) ascend within parted =
    let d : Upset = record { sample = 0; at = 0; value = 0 } in
    no_change us d k (λ j l e. absurd (apart j l e))
  where
    grow : IsNonDecreasingBy (λ (u : Upset). ordering_index (nat_cmp u.sample k)) us
    grow a b d le l = by (split a b le)
      where
        split : (a b : ℕ) → a ≤ b → (a < b) ⊎ (a ≡ b)
        split a b le = grind arith

        by : (a < b) ⊎ (a ≡ b)
            → ordering_index (nat_cmp (sample_at us d a) k) ≤ ordering_index (nat_cmp (sample_at us d b) k)
        by (inl lt) = let less = ascend a b d lt l in grind (arith, nat_tests)
        by (inr e) = grind (arith, nat_tests, ap (sample_at us d) e)

    apart : (j : ℕ) → j < length us → sample_at us (record { sample = 0; at = 0; value = 0 }) j ≢ k
    apart j l e = by (side j i)
      where
        side : (j i : ℕ) → (j < i) ⊎ (i ≤ j)
        side j i = grind arith

        by : (j < i) ⊎ (i ≤ j) → ⊥
        by (inl lt) =
            let less : sample_at us (record { sample = 0; at = 0; value = 0 }) j < k =
            ranked _ k _ (sym ((parted grow).0 j (record { sample = 0; at = 0; value = 0 }) (omega arith) lt)) in
            omega (arith, less, e)
        by (inr le) =
            let more : k < sample_at us (record { sample = 0; at = 0; value = 0 }) j =
            ranked _ k _ (sym ((parted grow).1 j (record { sample = 0; at = 0; value = 0 }) le l)) in
            omega (arith, more, e)

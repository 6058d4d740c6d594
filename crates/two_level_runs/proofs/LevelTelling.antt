-- What levels told in a run that follows the slow run without interrupts.
use Rattle.two_level_runs.proofs.Words.{[], ◌∷◌, ◌≡◌, All, AllComplete, ap, AreTold, arith, Before, EachTold}
use Rattle.two_level_runs.proofs.Words.{FastSeen, FastStands, given, is_open_to_fast, IsGoodLevel, IsTold}
use Rattle.two_level_runs.proofs.Words.{IsToldFrom, length, Level, two_level_form, List, map, onto, Option}
use Rattle.two_level_runs.proofs.Words.{outputs_after, refl, Request, rows_of_samples, RowSeen, State, subst, suc}
use Rattle.two_level_runs.proofs.Words.{sym, taken_at, TakenAtOnce, Two, uninterrupted, with_writes, ℕ}
use Rattle.two_level_runs.proofs.Words.{Block, slow_alone}
use Rattle.run_law.specs.{Following.IsToldIn, Following.IsToldAt, Following.RowsTold}
use Rattle.two_level_runs.proofs.LevelServing.{Given, tells}
use Rattle.two_level_runs.proofs.LevelRows.{SlowFacts, moments_are}

-- the numbers of steps of the rows
pub steps_are : (flags : ℕ) (b : Block) (two : Two) (plan : List Request) (k : ℕ) (ns : List ℕ)
    (samples : List (List ℕ)) (s : State)
    → AllComplete (SlowFacts flags b two) (with_writes flags (slow_alone b two)) ns samples s
    → map (λ (r : RowSeen (List ℕ)). r.steps) (rows_of_samples flags (slow_alone b two) plan k ns samples s) ≡ ns
steps_are flags b two plan k [] samples s h = refl
steps_are flags b two plan k (n ∷ ns) [] s h = absurd h
steps_are flags b two plan k (n ∷ ns) (x ∷ rest) s h =
    ap (λ (ks : List ℕ). n ∷ ks)
    (steps_are flags b two plan (suc k) ns rest (uninterrupted flags n (given two.firmware.memory_map x s)) h.1)

module _ (x : Given) (at_once : TakenAtOnce) where
  abbrev Good : Level × Option FastSeen → Type 0
  Good t = IsGoodLevel (length x.samples) t.0

  abbrev Own : List (Level × Option FastSeen) → State → Type 0
  Own = FastStands x.fast x.two x.samples

  -- in a sample that is given in s
  each_told : (n : ℕ) (s : State) → Before (SlowFacts x.flags x.slow x.two) x.flags n s
      → (done ts : List (Level × Option FastSeen)) → All Good ts
      → EachTold (IsToldAt is_open_to_fast (two_level_form x.flags x.two x.samples) Own n s) done ts
      → EachTold (IsToldFrom x.fast x.two x.flags x.samples s) done ts
  each_told n s holds done [] good h = tt
  each_told n s holds done (t ∷ ts) good h =
      (here, each_told n s holds (t ∷ done) ts (λ k d lt. good (suc k) d (omega arith)) h.1)
    where
      l : Level
      l = t.0

      at : ℕ
      at = taken_at x.flags (λ (q : Level). q.moment) n s l

      said : IsToldIn is_open_to_fast (two_level_form x.flags x.two x.samples) Own (uninterrupted x.flags at s) done t
      said = h.0.1

      Told : ℕ → Option FastSeen → Type 0
      Told m o =
          IsTold x.fast x.two x.flags x.samples (outputs_after x.fast x.samples done) (uninterrupted x.flags m s) l o

      here : IsToldFrom x.fast x.two x.flags x.samples s done t
      here =
          subst (λ (m : ℕ). Told m t.1)
          (ap (λ (moment : Level → ℕ). moment l) (moments_are at_once x.flags x.slow x.two n s holds))
          (subst (λ (o : Option FastSeen). Told at o) (sym said.tells)
          (tells x done l said.begun (uninterrupted x.flags at s) (good 0 t (omega arith))
          (record { facts = holds at h.0.0; begins = said.begins; stands = said.own })))

  -- in all samples
  pub rows_told : (done : List (Level × Option FastSeen)) (tss : List (List (Level × Option FastSeen))) (ns : List ℕ)
      (samples : List (List ℕ)) (s : State)
      → AllComplete (SlowFacts x.flags x.slow x.two) (with_writes x.flags (slow_alone x.slow x.two)) ns samples s
      → All (All Good) tss
      → RowsTold is_open_to_fast (two_level_form x.flags x.two x.samples) Own done tss ns samples s
      → AreTold x.fast x.two x.flags x.samples done tss ns samples s
  rows_told done [] ns samples s complete good h = tt
  rows_told done (ts ∷ tss) [] samples s complete good h = h
  rows_told done (ts ∷ tss) (n ∷ ns) [] s complete good h = h
  rows_told done (ts ∷ tss) (n ∷ ns) (y ∷ rest) s complete good h =
      let u = given x.two.firmware.memory_map y s in
      let one = complete.0 in (
        each_told n u one.holds done ts (good 0 ts (omega arith)) h.0,
        rows_told (onto ts done) tss ns rest (uninterrupted x.flags n u) complete.1
            (λ k d lt. good (suc k) d (omega arith)) h.1,
      )

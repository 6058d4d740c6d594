-- The fast runs that levels told of.
use Rattle.two_level_runs.proofs.Words.{[], ◌++◌, ◌∷◌, ◌≡◌, ◌≤◌, All, All-cons, all_onto, answer_of_fast, ap, AreTold}
use Rattle.two_level_runs.proofs.Words.{arith, Block, Byte, bytes_of, EachTold, fast_most, FastSeen, Form, given}
use Rattle.two_level_runs.proofs.Words.{IsReadOff, IsTold, IsToldFrom, length, Level, List, map, None, onto, Option}
use Rattle.two_level_runs.proofs.Words.{outputs_after, refl, rows_from, RowSeen, Some, State, step_bound, subst, suc}
use Rattle.two_level_runs.proofs.Words.{sym, Two, uninterrupted, ℕ}
use Rattle.std.specs.{Prelude.flat_map}
use Rattle.two_level_runs.specs.{Rows.with_fast, Levels.IsAnswerTold, Levels.AreAnswersTold, Answering.runs_told}
use Rattle.two_level_runs.specs.{Answering.fast_runs, Answering.outputs_told}
use Rattle.std.specs.List.{cons_option}
use Rattle.firmware_code.specs.Uninterrupted.{AreAnswersOf}
use Rattle.run_forms.specs.Rows.{shown_rows}

-- those of all samples
abbrev pub runs_in : List (List (Level × Option FastSeen)) → List FastSeen
runs_in tss = flat_map (λ ts. runs_told (map (λ t. t.1) ts)) tss

runs_shown : (rows : List (RowSeen (List ℕ))) (tss : List (List (Level × Option FastSeen))) → length rows ≡ length tss
    → fast_runs (shown_rows with_fast rows tss) ≡ runs_in tss
runs_shown [] [] e = refl
runs_shown [] (ts ∷ tss) e = absurd (omega arith)
runs_shown (row ∷ rows) [] e = absurd (omega arith)
runs_shown (row ∷ rows) (ts ∷ tss) e =
    ap (λ (fs : List FastSeen). runs_told (map (λ (t : Level × Option FastSeen). t.1) ts) ++ fs)
    (runs_shown rows tss (omega arith))

plain_shown : (rows : List (RowSeen (List ℕ))) (tss : List (List (Level × Option FastSeen))) → length rows ≡ length tss
    → map (λ r. r.row) (shown_rows with_fast rows tss) ≡ rows
plain_shown [] tss e = refl
plain_shown (row ∷ rows) [] e = absurd (omega arith)
plain_shown (row ∷ rows) (ts ∷ tss) e =
    ap (λ (rs : List (RowSeen (List ℕ))). row ∷ rs) (plain_shown rows tss (omega arith))

-- each row has what was told
one_telling : {S A B : Type 0} (f : Form S A B) (most : ℕ) (asks : ℕ → List A) (k : ℕ) (samples : List S) (s : State)
    → length (rows_from f most asks k samples s).rows ≡ length (rows_from f most asks k samples s).told
unfolding rows_from
one_telling f most asks k [] s = refl
one_telling f most asks k (x ∷ rest) s = ap suc (one_telling f most asks (suc k) rest _)

pub runs_are : (f : Form (List ℕ) Level (Option FastSeen)) (most : ℕ) (asks : ℕ → List Level) (k : ℕ)
    (samples : List (List ℕ)) (s : State)
    → (let all = rows_from f most asks k samples s in
    fast_runs (shown_rows with_fast all.rows all.told) ≡ runs_in all.told)
runs_are f most asks k samples s =
    let all = rows_from f most asks k samples s in
    runs_shown all.rows all.told (one_telling f most asks k samples s)

pub rows_seen : (f : Form (List ℕ) Level (Option FastSeen)) (most : ℕ) (asks : ℕ → List Level) (k : ℕ)
    (samples : List (List ℕ)) (s : State)
    → (let all = rows_from f most asks k samples s in
    map (λ r. r.row) (shown_rows with_fast all.rows all.told) ≡ all.rows)
rows_seen f most asks k samples s =
    let all = rows_from f most asks k samples s in
    plain_shown all.rows all.told (one_telling f most asks k samples s)

-- they answer their samples, one after the other
abbrev pub Answer : Block → Two → List (List ℕ) → (ℕ → ℕ) → List FastSeen → Type 0
Answer b two samples before fs =
    AreAnswersOf Byte b (fast_most two.fast.instr_bound) before (map (λ f. bytes_of samples f.number) fs)
    (map answer_of_fast fs)

one_more : (b : Block) (two : Two) (samples : List (List ℕ)) (before : ℕ → ℕ) (t : Option FastSeen)
    (gs fs : List FastSeen)
    → IsAnswerTold b two samples before t → Answer b two samples (outputs_told b samples before t) (gs ++ fs)
    → Answer b two samples before (cons_option t gs ++ fs)
one_more b two samples before None gs fs told rest = rest
one_more b two samples before (Some f) gs fs told rest = (told, rest)

onto_answers : (b : Block) (two : Two) (samples : List (List ℕ)) (ts done : List (Level × Option FastSeen))
    (fs : List FastSeen)
    → AreAnswersTold b two samples (onto ts done) → Answer b two samples (outputs_after b samples (onto ts done)) fs
    → Answer b two samples (outputs_after b samples done) (runs_told (map (λ t. t.1) ts) ++ fs)
    × AreAnswersTold b two samples done
onto_answers b two samples [] done fs told rest = (rest, told)
onto_answers b two samples (t ∷ ts) done fs told rest =
    let r = onto_answers b two samples ts (t ∷ done) fs told rest in
    let here = r.1 in (
      one_more b two samples (outputs_after b samples done) t.1
          (runs_told (map (λ (u : Level × Option FastSeen). u.1) ts)) fs here.0 r.0,
      here.1,
    )

pub all_answers : (b : Block) (two : Two) (samples : List (List ℕ)) (tss : List (List (Level × Option FastSeen)))
    (done : List (Level × Option FastSeen)) → AreAnswersTold b two samples (all_onto tss done)
    → Answer b two samples (outputs_after b samples done) (runs_in tss) × AreAnswersTold b two samples done
all_answers b two samples [] done told = (tt, told)
all_answers b two samples (ts ∷ tss) done told =
    let r = all_answers b two samples tss (onto ts done) told in
    onto_answers b two samples ts done (runs_in tss) r.1 r.0

-- what holds of each that is read off
module _ (b : Block) (two : Two) (flags : ℕ) (samples : List (List ℕ)) (P : FastSeen → Type 0)
    (each : (before : ℕ → ℕ) (slow : State) (l : Level) (f : FastSeen)
    → IsReadOff b two flags samples before slow l f → P f) where
  told_by_levels : (s : State) (done ts : List (Level × Option FastSeen)) (fs : List FastSeen)
      → EachTold (IsToldFrom b two flags samples s) done ts → All P fs
      → All P (runs_told (map (λ t. t.1) ts) ++ fs)
  told_by_levels s done [] fs told rest = rest
  told_by_levels s done (t ∷ ts) fs told rest =
      by t.1 told.0 (told_by_levels s (t ∷ done) ts fs told.1 rest)
    where
      l : Level
      l = t.0

      by : (o : Option FastSeen)
          → IsTold b two flags samples (outputs_after b samples done) (uninterrupted flags l.moment s) l o
          → All P (runs_told (map (λ (u : Level × Option FastSeen). u.1) ts) ++ fs)
          → All P (cons_option o (runs_told (map (λ (u : Level × Option FastSeen). u.1) ts)) ++ fs)
      by None h more = more
      by (Some f) h more =
          All-cons P f (runs_told (map (λ (u : Level × Option FastSeen). u.1) ts) ++ fs)
          (each (outputs_after b samples done) (uninterrupted flags l.moment s) l f h) more

  pub all_told : (done : List (Level × Option FastSeen)) (tss : List (List (Level × Option FastSeen))) (ns : List ℕ)
      (slow : List (List ℕ)) (s : State) → AreTold b two flags samples done tss ns slow s → All P (runs_in tss)
  all_told done [] ns slow s told = λ k x lt. absurd (omega arith)
  all_told done (ts ∷ tss) [] slow s told = absurd told
  all_told done (ts ∷ tss) (n ∷ ns) [] s told = absurd told
  all_told done (ts ∷ tss) (n ∷ ns) (x ∷ rest) s told =
      let u = given two.firmware.memory_map x s in
      told_by_levels u done ts (runs_in tss) told.0
      (all_told (onto ts done) tss ns rest (uninterrupted flags n u) told.1)

-- their steps are within the bound
pub few_steps : (b : Block) (two : Two) (flags : ℕ) (samples : List (List ℕ)) (before : ℕ → ℕ) (slow : State)
    (l : Level) (f : FastSeen)
    → IsReadOff b two flags samples before slow l f → f.steps ≤ fast_most (step_bound Byte b)
few_steps b two flags samples before slow l f h =
    let run = h.run in subst (λ (n : ℕ). n ≤ fast_most (step_bound Byte b)) (sym h.steps) run.steps

-- What rows under levels are to be.
use Rattle.two_level_runs.proofs.Words.{[], ◌<◌, ◌∙◌, ◌∷◌, ◌≡◌, ◌≤◌, ◌⊎◌, All, All-cons, AllComplete, ap, ap₂}
use Rattle.two_level_runs.proofs.Words.{AreOnStack, arith, Before, both_ways, Completes, counted, FactsBeside}
use Rattle.two_level_runs.proofs.Words.{frames_of, FrameSeen, given, inl, inr, is_open_to_fast, Level, two_level_form}
use Rattle.two_level_runs.proofs.Words.{levels_of, List, map, None, plan_of, refl, Request}
use Rattle.two_level_runs.proofs.Words.{request_of, requests_of, resumed_of, rows_of_samples, RowSeen, State, subst}
use Rattle.two_level_runs.proofs.Words.{suc, sym, taken_at, taken_before, taken_by, TakenAtOnce, Two}
use Rattle.two_level_runs.proofs.Words.{uninterrupted, with_writes, ℕ, cases_lt, length, OnStackOrNone}
use Rattle.two_level_runs.proofs.Words.{Block, slow_alone}
use Rattle.run_law.specs.Following.{expected_rows, expected_taken, RowsSimulate}
use Rattle.alone_runs.specs.Following.{AllWait}
use Rattle.firmware_runs.specs.{Facts.WaitsAlone, Ports.answers_in}
use Rattle.firmware_runs.proofs.Algebra.{at_moments}
use Rattle.firmware_code.specs.declared.firmware.Firmware.{Firmware}
use Rattle.firmware_code.proofs.Algebra.{in_room}
use Rattle.two_level_runs.proofs.Frames.{HasFrameRoom, frames_fit, low_all}
use Rattle.two_level_runs.proofs.LevelPlans.{requests_are, resumed_each, frames_of_each}

-- the facts before each step of the slow firmware
abbrev pub SlowFacts : ℕ → Block → Two → State → Type 0
SlowFacts flags b two = FactsBeside is_open_to_fast flags (slow_alone b two)

-- two runs that end have the same numbers of steps
one_number : (P Q : State → Type 0) (flags : ℕ) (f : Firmware) (m n : ℕ) (s : State)
    → Completes P (with_writes flags f) 0 m m s → Completes Q (with_writes flags f) 0 n n s → m ≡ n
one_number P Q flags f m n s a b = by (order m n)
  where
    order : (m n : ℕ) → (suc m ≤ n) ⊎ ((suc n ≤ m) ⊎ (m ≡ n))
    order m n = grind arith

    by : (suc m ≤ n) ⊎ ((suc n ≤ m) ⊎ (m ≡ n)) → m ≡ n
    by (inl l) = absurd (both_ways _ (b.on m (omega arith) l) a.ended)
    by (inr (inl l)) = absurd (both_ways _ (a.on n (omega arith) l) b.ended)
    by (inr (inr e)) = e

pub same_numbers : (P Q : State → Type 0) (flags : ℕ) (f : Firmware) (ms ns : List ℕ) (samples : List (List ℕ))
    (s : State)
    → AllComplete P (with_writes flags f) ms samples s → AllComplete Q (with_writes flags f) ns samples s → ms ≡ ns
same_numbers P Q flags f [] [] [] s a b = refl
same_numbers P Q flags f [] (n ∷ ns) [] s a b = absurd b
same_numbers P Q flags f (m ∷ ms) ns [] s a b = absurd a
same_numbers P Q flags f [] ns (x ∷ xs) s a b = absurd a
same_numbers P Q flags f (m ∷ ms) [] (x ∷ xs) s a b = absurd b
same_numbers P Q flags f (m ∷ ms) (n ∷ ns) (x ∷ xs) s a b =
    let e = one_number P Q flags f m n (given f.memory_map x s) a.0 b.0 in
    let rest : AllComplete Q (with_writes flags f) ns xs (uninterrupted flags m (given f.memory_map x s)) =
    subst (λ (k : ℕ). AllComplete Q (with_writes flags f) ns xs (uninterrupted flags k (given f.memory_map x s)))
    (sym e) b.1 in
    ap₂ (λ (k : ℕ) (ks : List ℕ). k ∷ ks) e
    (same_numbers P Q flags f ms ns xs (uninterrupted flags m (given f.memory_map x s)) a.1 rest)

-- I is 0 throughout: a level is taken at its moment
pub moments_are : TakenAtOnce → (flags : ℕ) (b : Block) (two : Two) (n : ℕ) (s : State)
    → Before (SlowFacts flags b two) flags n s
    → taken_at flags (λ (l : Level). l.moment) n s ≡ (λ l. l.moment)
moments_are law flags b two n s =
    at_moments law (SlowFacts flags b two) (λ v p. (let facts = p.facts in facts.unmasked)) flags n s (λ l. l.moment)

-- a row by when levels are taken
abbrev row_by : ℕ → Two → List Level → ℕ → List ℕ → State → (Level → ℕ) → RowSeen (List ℕ)
row_by flags two ls n x s moment = record {
  sample = x;
  answers = answers_in two.firmware (uninterrupted flags n s);
  instrs = counted flags n s;
  steps = n;
  resumed = resumed_of flags moment s ls n;
  frames = frames_of flags moment s ls n;
}

-- by requests that write nothing
abbrev row_with : ℕ → Two → List Request → ℕ → List ℕ → State → RowSeen (List ℕ)
row_with flags two qs n x s = record {
  sample = x;
  answers = answers_in two.firmware (uninterrupted flags n s);
  instrs = counted flags n s;
  steps = n;
  resumed = resumed_of flags (λ r. r.moment) s qs n;
  frames = frames_of flags (λ r. r.moment) s qs n;
}

row_alike : (flags : ℕ) (two : Two) (ls : List Level) (n : ℕ) (x : List ℕ) (s : State)
    → row_by flags two ls n x s (λ l. l.moment) ≡ row_with flags two (map request_of ls) n x s
row_alike flags two ls n x s =
    ap₂ (λ (k : ℕ) (fs : List (ℕ × FrameSeen)). let row : RowSeen (List ℕ) = record {
      sample = x;
      answers = answers_in two.firmware (uninterrupted flags n s);
      instrs = counted flags n s;
      steps = n;
      resumed = k;
      frames = fs;
    } in row) (sym (resumed_each flags (λ (r : Request). r.moment) request_of s ls n))
    (sym (frames_of_each flags (λ (r : Request). r.moment) request_of s ls n))

-- So the rows are those of the slow firmware alone under the levels' plan,
pub same_rows : TakenAtOnce → (flags : ℕ) (b : Block) (two : Two) (fast : List (List ℕ)) (levels : List Level) (k : ℕ)
    (ns : List ℕ) (samples : List (List ℕ)) (s : State)
    → AllComplete (SlowFacts flags b two) (with_writes flags (slow_alone b two)) ns samples s
    → expected_rows (two_level_form flags two fast) (λ j. levels_of j levels) k ns samples s
    ≡ rows_of_samples flags (slow_alone b two) (plan_of levels) k ns samples s
same_rows law flags b two fast levels k [] samples s h = refl
same_rows law flags b two fast levels k (n ∷ ns) [] s h = refl
same_rows law flags b two fast levels k (n ∷ ns) (x ∷ rest) s h =
    let u : State = given two.firmware.memory_map x s in
    let holds = (let one = h.0 in one.holds) in
    let ls = levels_of k levels in
    ap₂ (λ (row : RowSeen (List ℕ)) (rows : List (RowSeen (List ℕ))). row ∷ rows)
    (ap (row_by flags two ls n x u) (moments_are law flags b two n u holds) ∙ row_alike flags two ls n x u
    ∙ ap (λ (qs : List Request). row_with flags two qs n x u) (sym (requests_are k levels)))
    (same_rows law flags b two fast levels (suc k) ns rest (uninterrupted flags n u) h.1)

-- the levels that are taken are those before the ends of the samples,
pub same_taken : TakenAtOnce → (flags : ℕ) (b : Block) (two : Two) (fast : List (List ℕ)) (levels : List Level) (k : ℕ)
    (ns : List ℕ) (samples : List (List ℕ)) (s : State)
    → AllComplete (SlowFacts flags b two) (with_writes flags (slow_alone b two)) ns samples s
    → expected_taken (two_level_form flags two fast) (λ j. levels_of j levels) k ns samples s
    ≡ taken_by k levels (map (λ (r : RowSeen (List ℕ)). r.steps)
    (rows_of_samples flags (slow_alone b two) (plan_of levels) k ns samples s))
same_taken law flags b two fast levels k [] samples s h = refl
same_taken law flags b two fast levels k (n ∷ ns) [] s h = refl
same_taken law flags b two fast levels k (n ∷ ns) (x ∷ rest) s h =
    let u : State = given two.firmware.memory_map x s in
    let complete = h.0 in
    ap₂ (λ (ts : List Level) (tss : List (List Level)). ts ∷ tss)
    (ap (λ (moment : Level → ℕ). taken_before moment n (levels_of k levels))
    (moments_are law flags b two n u complete.holds))
    (same_taken law flags b two fast levels (suc k) ns rest (uninterrupted flags n u) h.1)

-- and no frame stands below the stack's start.
pub on_stack : (flags : ℕ) (b : Block) (two : Two) (plan : List Request) (k : ℕ) (ns : List ℕ)
    (samples : List (List ℕ)) (s : State)
    → AllComplete (SlowFacts flags b two) (with_writes flags (slow_alone b two)) ns samples s
    → All (λ (r : RowSeen (List ℕ)). AreOnStack r.frames) (rows_of_samples flags (slow_alone b two) plan k ns samples s)
on_stack flags b two plan k [] samples s h = λ j d l. absurd (omega arith)
on_stack flags b two plan k (n ∷ ns) [] s h = λ j d l. absurd (omega arith)
on_stack flags b two plan k (n ∷ ns) (x ∷ rest) s h =
    let u : State = given two.firmware.memory_map x s in
    let holds = (let one = h.0 in one.holds) in
    let room : (j : ℕ) → j < n → HasFrameRoom (uninterrupted flags j u) =
    λ j l. (let p = holds j l in in_room (uninterrupted flags j u).regs.sp p.stack) in
    All-cons (λ (r : RowSeen (List ℕ)). AreOnStack r.frames) (row_with flags two (requests_of k plan) n x u)
    (rows_of_samples flags (slow_alone b two) plan (suc k) ns rest (uninterrupted flags n u))
    (frames_fit flags n u (λ (r : Request). r.moment) room (requests_of k plan) None)
    (on_stack flags b two plan (suc k) ns rest (uninterrupted flags n u) h.1)

-- SP is on the stack at each boundary, where the firmware waits too.
first_waits : (flags : ℕ) (f : Firmware) (ns : List ℕ) (samples : List (List ℕ)) (s : State)
    → AllWait flags f ns samples s → WaitsAlone f s
first_waits flags f [] samples s h = h
first_waits flags f (n ∷ ns) [] s h = h
first_waits flags f (n ∷ ns) (x ∷ rest) s h = h.0

pub rows_low : (flags : ℕ) (b : Block) (two : Two) (fast : List (List ℕ)) (ns : List ℕ) (samples : List (List ℕ))
    (wss : List (List State)) (s : State)
    → AllComplete (SlowFacts flags b two) (with_writes flags (slow_alone b two)) ns samples s
    → AllWait flags (slow_alone b two) ns samples s
    → RowsSimulate OnStackOrNone is_open_to_fast (two_level_form flags two fast) ns samples wss s
    → map (λ (ws : List State). length ws) wss ≡ map (λ (n : ℕ). suc n) ns
    → All (λ (ws : List State). All (λ (w : State). 0x1FE0 ≤ w.regs.sp) ws) wss
rows_low flags b two fast ns samples [] s h waits a e = λ j d l. absurd (omega arith)
rows_low flags b two fast [] samples (ws ∷ wss) s h waits a e = absurd cc
rows_low flags b two fast (n ∷ ns) [] (ws ∷ wss) s h waits a e = absurd h
rows_low flags b two fast (n ∷ ns) (x ∷ rest) (ws ∷ wss) s h waits a e =
    All-cons (λ (vs : List State). All (λ (w : State). 0x1FE0 ≤ w.regs.sp) vs) ws wss
    (low_all OnStackOrNone is_open_to_fast flags ws u a.0 (λ j l. room j (cases_lt j n) (omega (arith, count, l))))
    (rows_low flags b two fast ns rest wss (uninterrupted flags n u) h.1 waits.1 a.1 more)
  where
    u : State
    u = given two.firmware.memory_map x s

    count : length ws ≡ suc n
    count = cc

    more : map (λ (vs : List State). length vs) wss ≡ map (λ (k : ℕ). suc k) ns
    more = cc

    room : (j : ℕ) → (j < n) ⊎ (n ≤ j) → j ≤ n → HasFrameRoom (uninterrupted flags j u)
    room j (inl l) le =
        (let one = h.0 in
        let p = one.holds j l in in_room (uninterrupted flags j u).regs.sp p.stack)
    room j (inr l) le =
        (let w = first_waits flags (slow_alone b two) ns rest (uninterrupted flags n u) waits.1 in
        let e : n ≡ j = omega arith in
        subst (λ (k : ℕ). HasFrameRoom (uninterrupted flags k u)) e (in_room (uninterrupted flags n u).regs.sp w.stack))

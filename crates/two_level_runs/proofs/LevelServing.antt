-- A level's interrupt is quiet, and the fast code and its answers stand after it.
use Rattle.two_level_runs.proofs.Words.{[], ◌-◌, ◌<◌, ◌^◌, ◌∙◌, ◌∷◌, ◌≡◌, ◌≤◌, ◌⊎◌, Agree, All, All-cons, ap, ap₂}
use Rattle.two_level_runs.proofs.Words.{AreInputBytes, arith, Ascend, Begins, below_sums, Block, bytes_of, CanEnter}
use Rattle.two_level_runs.proofs.Words.{counted, entered, FactsBeside, false, fast_most, fast_run, FastRunsFollow}
use Rattle.two_level_runs.proofs.Words.{FastSeen, FastStands, FollowsInside, framed, HasFastCode, HasRoom}
use Rattle.two_level_runs.proofs.Words.{joint_memory, inl, inr, is_fast_ram, is_hidden, is_open_inside}
use Rattle.two_level_runs.proofs.Words.{is_open_to_fast, IsGoodLevel, IsQuietRun, IsReadOff, IsServable, IsTold}
use Rattle.two_level_runs.proofs.Words.{LeavesStack, length, Level, List, nat_tests, None, OnStackOrNone, Option}
use Rattle.two_level_runs.proofs.Words.{OuterEnters, OuterIsQuiet, OuterIsServable, OuterServes, outputs_after, Quiet}
use Rattle.two_level_runs.proofs.Words.{Ran, refl, Regs, RunsFast, sample_of, seen_of, served_by, slice_get, Some}
use Rattle.two_level_runs.proofs.Words.{State, subst, suc, sym, Temps, told_by, true, Two, word_of, zero, ℕ}
use Rattle.two_level_runs.proofs.Words.{slow_alone}
use Rattle.firmware_code.specs.Interruptible.{IsStackOfOneCall}
use Rattle.std.specs.{Prelude.slice_index_or}
use Rattle.fuzzy_meaning.specs.{Blocks.IsValid}
use Rattle.cpu12_emul.specs.{Simulation.TakesQuietly}
use Rattle.run_law.specs.{Soundness.FitBelow}
use Rattle.two_level_code.specs.{Images.IsFastOf, Images.IsTwoOf}
use Rattle.alone_runs.specs.{OpenBytes.StepsLeaveOpen, OpenBytes.GivenLeavesOpen}
use Rattle.two_level_runs.specs.{Runs.Outer, Runs.served, Runs.told, Rows.outer_of}
use Rattle.std.specs.List.Sorted.{IsNonDecreasing}
use Rattle.rule_layout.specs.Layouts.{IsWithinLimits}
use Rattle.two_level_runs.proofs.{Bytes.BytesLaws, Bytes.begins_fits, Bytes.take_bytes, Entering.bytes_stay}
use Rattle.two_level_runs.proofs.{Serving.open_apart, Standing.stands, Telling.answers_told, Telling.read_off}

-- the laws on which levels stand
pub record LevelLaws : Type 0 where
  pub bytes : BytesLaws
  pub steps_leave_open : StepsLeaveOpen
  pub given_leaves_open : GivenLeavesOpen
  pub takes_quietly : TakesQuietly
  pub follow : FastRunsFollow
  pub is_quiet : OuterIsQuiet
  pub serves : OuterServes
  pub servable : OuterIsServable
  pub enters : OuterEnters

-- two valid blocks with their image, open flags, and samples of the fast one
pub record Given : Type 0 where
  pub laws : LevelLaws
  pub slow : Block
  pub fast : Block
  pub two : Two
  pub flags : ℕ
  pub samples : List (List ℕ)
  pub flags_fit : flags < 2 ^ 8
  pub slow_valid : IsValid slow
  pub slow_limits : IsWithinLimits slow
  pub fast_valid : IsValid fast
  pub fast_limits : IsWithinLimits fast
  pub is_two : IsTwoOf slow fast two
  pub inputs : All (AreInputBytes fast) samples

pub few_outputs : (x : Given) → length x.fast.outputs ≤ 8
few_outputs x = let v = x.fast_valid in omega (arith, v.few_outputs)

few_inputs : (x : Given) → length x.fast.inputs ≤ 8
few_inputs x = let v = x.fast_valid in v.few_inputs

-- the facts of both states in which an interrupt is served
pub record Serves (x : Given) (done : List (Level × Option FastSeen)) (v s : State) : Type 0 where
  pub facts : FactsBeside is_open_to_fast x.flags (slow_alone x.slow x.two) s
  pub begins : Begins is_open_to_fast v s
  pub stands : FastStands x.fast x.two x.samples done v

room_of : (x : Given) (done : List (Level × Option FastSeen)) (v s : State) → Serves x done v s → HasRoom s
room_of x done v s h = let p = h.facts in let facts = p.facts in let shown = facts.shown in shown.room

-- SP leaves room for a frame inside a frame
sp_within : (r : Regs) (t : Temps) → FitBelow r t → IsStackOfOneCall r.sp
    → (0x1FF8 ≤ (below_sums r t).sp) × ((below_sums r t).sp ≤ 0x2000)
sp_within r t below (inl e) = (omega (arith, below.low, e), omega (arith, below.high, e))
sp_within r t below (inr e) = (omega (arith, below.low, e), omega (arith, below.high, e))

can_enter : (x : Given) (done : List (Level × Option FastSeen)) (v s : State) → Serves x done v s
    → CanEnter x.fast (joint_memory x.two) (outputs_after x.fast x.samples done) v
can_enter x done v s h =
    let begins = h.begins in
    let own = h.stands in
    let room = room_of x done v s h in
    let laws : BytesLaws = (let all = x.laws in all.bytes) in
    let below = laws.sums_fit_below s.regs s.temps room.fits room.low room.high in
    let sp = (let p = h.facts in sp_within s.regs s.temps below p.stack) in
    record {
      off = begins.temps;
      size = begins.mem.size ∙ room.size;
      bytes = own.bytes;
      fits = begins_fits laws is_open_to_fast v s room begins;
      low = subst (λ (r : Regs). 0x1FF8 ≤ r.sp) (sym begins.regs) sp.0;
      high = subst (λ (r : Regs). r.sp ≤ 0x2000) (sym begins.regs) sp.1;
      code = own.code;
      outputs = own.outputs;
    }

-- without a sample
no_open : LeavesStack is_open_inside
no_open at h = absurd (never h)
  where
    never : false ≡ true → ⊥
    never e = cc

unserved : (x : Given) (done : List (Level × Option FastSeen)) (l : Level) (v s : State) → Serves x done v s
    → IsGoodLevel (length x.samples) l
    → FastStands x.fast x.two x.samples ((l, None) ∷ done) (framed [] v)
unserved x done l v s h good =
    let can = can_enter x done v s h in
    let laws = x.laws in
    let low = can.low in
    let same = laws.takes_quietly is_open_inside [] v no_open tt can.size can.fits (omega arith) can.high in
    let bytes_laws = laws.bytes in
    let kept =
    stands x.fast x.two x.samples done v (framed [] v) (few_outputs x)
    (λ at is. same.mem.bytes at (apart at is)) (take_bytes bytes_laws.bytes_stay v can.fits can.bytes) h.stands in
    record {
      bytes = kept.bytes;
      code = kept.code;
      outputs = kept.outputs;
      answers = (tt, kept.answers);
      good = All-cons (λ (t : Level × Option FastSeen). IsGoodLevel (length x.samples) t.0) (l, None) done good
          kept.good;
    }
  where
    off_stack : (at : ℕ) → v.regs.sp ≤ 0x2000 → (at < 0x1FE0) ⊎ (0x2000 ≤ at)
        → is_hidden is_open_inside v.regs.sp at ≡ false
    off_stack at l (inl e) = grind (arith, nat_tests)
    off_stack at l (inr e) = grind (arith, nat_tests)

    apart : (at : ℕ) → is_open_to_fast at ≡ true → is_hidden is_open_inside v.regs.sp at ≡ false
    apart at is = off_stack at (let can = can_enter x done v s h in can.high) (open_apart at is)

-- with one: the run of its bytes
abbrev bytes_in : Given → Level → List ℕ
bytes_in x l = bytes_of x.samples l.fast

abbrev most_of : Given → ℕ
most_of x = fast_most x.two.fast.step_bound

abbrev ran_of : Given → Level → State → Ran ℕ (Unit {0})
ran_of x l v = fast_run x.flags (length x.fast.outputs) (most_of x) l.inner.items (entered (bytes_in x l) v)

-- the fast code's bounds and outputs are the block's
pub code_is : (x : Given) → IsFastOf x.fast x.two.fast
code_is x = let is = x.is_two in is.fast_is

outputs_are : (x : Given) → x.two.fast.outputs ≡ length x.fast.outputs
outputs_are x = let code = code_is x in code.outputs

servable : (x : Given) (done : List (Level × Option FastSeen)) (l : Level) (v s : State) → Serves x done v s
    → AreInputBytes x.fast (bytes_in x l)
    → IsServable x.fast (joint_memory x.two) x.flags (most_of x) (outputs_after x.fast x.samples done) v
    (Some (bytes_in x l))
servable x done l v s h input =
    let laws = x.laws in
    laws.servable x.slow x.fast x.two x.flags (bytes_in x l) (outputs_after x.fast x.samples done) v x.slow_valid
    x.slow_limits
    x.fast_valid x.fast_limits x.is_two x.flags_fit input (can_enter x done v s h)

-- the code stays where the fast block's RAM alone changes
code_kept : (image m n : List ℕ) (sp : ℕ) → sp ≤ 0x2000 → Agree (is_hidden is_fast_ram sp) m n → HasFastCode image n
    → HasFastCode image m
code_kept image m n sp l a h = record {
  rom = λ at lo hi. a.bytes at (shown at lo) ∙ h.rom at lo hi;
  enters = ap₂ word_of (a.bytes 65522 (shown 65522 (omega arith))) (a.bytes 65523 (shown 65523 (omega arith)))
      ∙ h.enters;
}
  where
    shown : (at : ℕ) → 0x4000 ≤ at → is_hidden is_fast_ram sp at ≡ false
    shown at lo = grind (arith, nat_tests)

-- the run without inner requests, which it follows
FastRan : Given → List (Level × Option FastSeen) → Level → State → Type 0
FastRan x done l v =
    (fast : RunsFast x.fast (joint_memory x.two) x.flags (most_of x) (outputs_after x.fast x.samples done) v
    (bytes_in x l))
    × FollowsInside x.flags (length x.fast.outputs) (most_of x) l.inner.items
    (suc (let run = fast.run in run.further)) (entered (bytes_in x l) v)

fast_ran : (x : Given) (done : List (Level × Option FastSeen)) (l : Level) (v s : State) → Serves x done v s
    → AreInputBytes x.fast (bytes_in x l) → Ascend (λ k. k) 0 l.inner.items → FastRan x done l v
unfolding FastRan
fast_ran x done l v s h input ascend =
    let laws = x.laws in
    let can = can_enter x done v s h in
    let fast = (servable x done l v s h input).1 in
    let stay = (let b = laws.bytes in b.bytes_stay) in
    let own = h.stands in (
      fast,
      laws.follow x.fast (joint_memory x.two) x.flags (most_of x) (bytes_in x l)
          (outputs_after x.fast x.samples done) l.inner.items (entered (bytes_in x l) v) fast.behind x.flags_fit
          (few_outputs x) (bytes_stay stay (bytes_in x l) v input.fit can.fits can.bytes) ascend fast.run fast.within,
    )

served_stands : (x : Given) (done : List (Level × Option FastSeen)) (l : Level) (v s : State) → Serves x done v s
    → IsGoodLevel (length x.samples) l → AreInputBytes x.fast (bytes_in x l) → Ascend (λ k. k) 0 l.inner.items
    → FastStands x.fast x.two x.samples
    ((l, Some (seen_of l.fast (length x.fast.outputs) (ran_of x l v))) ∷ done) (ran_of x l v).state
unfolding FastRan
served_stands x done l v s h good input ascend =
    let laws = x.laws in
    let image = joint_memory x.two in
    let before = outputs_after x.fast x.samples done in
    let can = can_enter x done v s h in
    let own = h.stands in
    let ran = fast_ran x done l v s h input ascend in
    let fast = ran.0 in
    let run = fast.run in
    let k : IsQuietRun x.fast (bytes_in x l) before v (ran_of x l v) =
    laws.is_quiet x.fast image (bytes_in x l) x.flags (most_of x) before l.inner.items v fast.behind x.flags_fit
    (few_inputs x) (few_outputs x) input can ascend run fast.within in
    let inside = ran.1 in
    let most = x.two.fast.instr_bound in
    let steps : (ran_of x l v).instrs ≤ fast_most most =
    (let follows = inside.follows in let bound = code_is x in
    subst (λ (n : ℕ). n ≤ fast_most most) (sym follows.instrs)
    (subst (λ (n : ℕ). counted x.flags (suc run.further) (entered (bytes_in x l) v) ≤ fast_most n)
    (sym bound.instructions) run.instructions)) in
    record {
      bytes = k.bytes_fit;
      code = code_kept image (ran_of x l v).state.mem v.mem v.regs.sp can.high k.mem own.code;
      outputs = k.answers;
      answers = (
        answers_told x.fast (fast_most most) l.fast before (bytes_in x l) (ran_of x l v)
            (few_outputs x) steps k.answers,
        own.answers,
      );
      good = All-cons (λ (t : Level × Option FastSeen). IsGoodLevel (length x.samples) t.0)
          (l, Some (seen_of l.fast (length x.fast.outputs) (ran_of x l v))) done good own.good;
    }

told_read : (x : Given) (done : List (Level × Option FastSeen)) (l : Level) (v s : State) → Serves x done v s
    → 1 ≤ l.fast → l.fast ≤ length x.samples → AreInputBytes x.fast (bytes_in x l) → Ascend (λ k. k) 0 l.inner.items
    → IsReadOff x.fast x.two x.flags x.samples (outputs_after x.fast x.samples done) s l
    (seen_of l.fast (length x.fast.outputs) (ran_of x l v))
unfolding FastRan
told_read x done l v s h from to input ascend =
    let laws = x.laws in
    let before = outputs_after x.fast x.samples done in
    let room = room_of x done v s h in
    let ran = fast_ran x done l v s h input ascend in
    let fast = ran.0 in
    read_off x.fast x.two x.flags x.samples l before s v fast.behind from to (room.low, room.high) h.begins
    (laws.enters x.fast (joint_memory x.two) (bytes_in x l) before v (few_inputs x) (few_outputs x) input
    (can_enter x done v s h)) fast.run ran.1

-- the sample of a level
abbrev IsSampleOf : Given → Level → Type 0
IsSampleOf x l =
    ((sample_of x.samples l.fast ≡ None) × (l.fast ≡ 0))
    ⊎ ((sample_of x.samples l.fast ≡ Some (bytes_in x l)) × (1 ≤ l.fast) × AreInputBytes x.fast (bytes_in x l))

got : (xs : List (List ℕ)) (j : ℕ) → j < length xs → slice_get xs j ≡ Some (slice_index_or xs j [])
got [] j l = absurd (omega arith)
got (x ∷ xs) zero l = refl
got (x ∷ xs) (suc j) l = got xs j (omega arith)

sample_is : (x : Given) (l : Level) → l.fast ≤ length x.samples → IsSampleOf x l
sample_is x l le = by l.fast le
  where
    by : (k : ℕ) → k ≤ length x.samples
        → ((sample_of x.samples k ≡ None) × (k ≡ 0))
        ⊎ ((sample_of x.samples k ≡ Some (bytes_of x.samples k)) × (1 ≤ k)
        × AreInputBytes x.fast (bytes_of x.samples k))
    by zero h = inl (refl, refl)
    by (suc j) h =
        (let e : suc j - 1 ≡ j = omega arith in
        inr (
          got x.samples j (omega arith) ∙ ap (λ (k : ℕ). Some (slice_index_or x.samples k [])) (sym e),
          omega arith,
          subst (λ (k : ℕ). AreInputBytes x.fast (slice_index_or x.samples k [])) (sym e) (x.inputs j [] (omega arith)),
        ))

-- the moments of its inner requests
inner_ascends : (ms : List ℕ) → IsNonDecreasing ms → Ascend (λ k. k) 0 ms
inner_ascends ms rise = go ms 0 (λ l. omega arith) rise
  where
    go : (ms : List ℕ) (m : ℕ) → (0 < length ms → m ≤ slice_index_or ms 0 0) → IsNonDecreasing ms → Ascend (λ k. k) m ms
    go [] m h rise = tt
    go (k ∷ ms) m h rise = (
      h (omega arith),
      go ms k (λ l. rise 0 1 0 (omega arith) (omega arith))
          (λ i j d le lt. rise (suc i) (suc j) d (omega arith) (omega arith)),
    )

-- what a level leaves, with so many outputs and this sample
abbrev AfterLevel : (x : Given) → List (Level × Option FastSeen) → Level → State → State → ℕ → Option (List ℕ) → Type 0
AfterLevel x done l v s n sample =
    Quiet OnStackOrNone is_open_to_fast (served_by x.flags n (most_of x) l.inner.items sample v) v s
    × FastStands x.fast x.two x.samples
    ((l, told_by x.flags n (most_of x) l.fast l.inner.items sample v) ∷ done)
    (served_by x.flags n (most_of x) l.inner.items sample v)

pub serves : (x : Given) (done : List (Level × Option FastSeen)) (l : Level) (v s : State)
    → IsGoodLevel (length x.samples) l
    → Serves x done v s
    → Quiet OnStackOrNone is_open_to_fast (served x.flags x.two.fast.outputs (most_of x) (outer_of x.samples l) v) v s
    × FastStands x.fast x.two x.samples
    ((l, told x.flags x.two.fast.outputs (most_of x) (outer_of x.samples l) v) ∷ done)
    (served x.flags x.two.fast.outputs (most_of x) (outer_of x.samples l) v)
serves x done l v s good h =
    subst (λ (n : ℕ). AfterLevel x done l v s n (sample_of x.samples l.fast)) (sym (outputs_are x))
    (by (sample_is x l good.fast_to))
  where
    ascend : Ascend (λ k. k) 0 l.inner.items
    ascend = inner_ascends l.inner.items good.inner_rise

    outer : Option (List ℕ) → Outer
    outer sample = record { moment = l.moment; number = l.fast; sample = sample; inner = l.inner.items }

    quiet : (sample : Option (List ℕ))
        → IsServable x.fast (joint_memory x.two) x.flags (most_of x)
        (outputs_after x.fast x.samples done) v sample
        → Quiet OnStackOrNone is_open_to_fast (served_by x.flags (length x.fast.outputs) (most_of x)
        l.inner.items sample v) v s
    quiet sample good_sample =
        (let laws = x.laws in
        let slow = (let p = h.facts in let facts = p.facts in facts.sums) in
        laws.serves x.fast (joint_memory x.two) x.flags (most_of x) (outputs_after x.fast x.samples done)
        (outer sample) v s
        x.flags_fit (few_inputs x) (few_outputs x) (can_enter x done v s h) good_sample ascend
        (room_of x done v s h) h.begins slow)

    by : IsSampleOf x l → AfterLevel x done l v s (length x.fast.outputs) (sample_of x.samples l.fast)
    by (inl e) =
        subst (λ (sample : Option (List ℕ)). AfterLevel x done l v s (length x.fast.outputs) sample) (sym e.0)
        (quiet None tt, unserved x done l v s h good)
    by (inr e) =
        subst (λ (sample : Option (List ℕ)). AfterLevel x done l v s (length x.fast.outputs) sample) (sym e.0) (
          quiet (Some (bytes_in x l)) (servable x done l v s h e.2),
          served_stands x done l v s h good e.2 ascend,
        )

-- and what it tells
abbrev ToldBy : (x : Given) → List (Level × Option FastSeen) → Level → State → State → ℕ → Option (List ℕ) → Type 0
ToldBy x done l v s n sample =
    IsTold x.fast x.two x.flags x.samples (outputs_after x.fast x.samples done) s l
    (told_by x.flags n (most_of x) l.fast l.inner.items sample v)

pub tells : (x : Given) (done : List (Level × Option FastSeen)) (l : Level) (v s : State)
    → IsGoodLevel (length x.samples) l → Serves x done v s
    → IsTold x.fast x.two x.flags x.samples (outputs_after x.fast x.samples done) s l
    (told x.flags x.two.fast.outputs (most_of x) (outer_of x.samples l) v)
tells x done l v s good h =
    subst (λ (n : ℕ). ToldBy x done l v s n (sample_of x.samples l.fast)) (sym (outputs_are x))
    (by (sample_is x l good.fast_to))
  where
    by : IsSampleOf x l → ToldBy x done l v s (length x.fast.outputs) (sample_of x.samples l.fast)
    by (inl e) =
        subst (λ (sample : Option (List ℕ)). ToldBy x done l v s (length x.fast.outputs) sample) (sym e.0) e.1
    by (inr e) =
        subst (λ (sample : Option (List ℕ)). ToldBy x done l v s (length x.fast.outputs) sample) (sym e.0)
        (told_read x done l v s h e.1 good.fast_to e.2 (inner_ascends l.inner.items good.inner_rise))

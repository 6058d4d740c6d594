-- What runs at two levels answer.
-- Beside the promise.
use Rattle.std.specs.Prelude.{◌≡◌, ℕ, suc, ◌^◌, ◌<◌, ◌≤◌, max, true, Option, None, Some, List, [], ◌∷◌, length}
use Rattle.std.specs.Prelude.{map, All, filter_map, flat_map}
use Rattle.fuzzy_meaning.specs.{declared.block.Block.Block, Blocks.IsValid}
use Rattle.rule_layout.specs.Layouts.{IsWithinLimits}
use Rattle.cpu12_parts.specs.State.{State}
use Rattle.cpu12_isa.specs.Regions.{stack_start}
use Rattle.cpu12_emul.specs.{Simulation.OnStackOrNone}
use Rattle.run_law.specs.{Forms.Ran, Soundness.Begins, Following.asked, Following.onto, Following.EachTold}
use Rattle.run_law.specs.Following.{AllComplete, RowsSimulate}
use Rattle.run_law.specs.Uninterrupted.{uninterrupted, counted, taken_before, resumed_of, expected_frame, frames_of}
use Rattle.interrupt_plan.specs.{declared.Request.Request, declared.levels.Level.Level, Levels.AreGoodLevels}
use Rattle.byte_scaling.specs.declared.width.Width.TheVariants.{Byte}
use Rattle.eval_code.specs.{Widths.answer, Firing.AreInputBytes}
use Rattle.firmware_code.specs.{declared.firmware.Firmware.Firmware, Uninterrupted.Answer, Uninterrupted.AreAnswersOf}
use Rattle.firmware_code.specs.Uninterrupted.{AreUninterrupted}
use Rattle.two_level_code.specs.declared.two.Two.{Two}
use Rattle.two_level_code.specs.Images.{fast_most, joint_memory, slow_alone, IsAlone, IsTwoOf}
use Rattle.two_level_code.specs.MemoryMaps.{is_open_to_fast}
use Rattle.two_level_code.specs.Running.{IsEntered}
use Rattle.firmware_runs.specs.{Facts.FactsBeside, Ports.given}
use Rattle.alone_runs.specs.{Rows.bytes_of, Rows.first_state, Rows.firmware_rows, Answering.AnswerBlock}
use Rattle.two_level_runs.specs.Runs.{entered, fast_run, FastSeen, seen_of}
use Rattle.two_level_runs.specs.Rows.{two_level_form, levels_of, two_rows, TwoLevelSeen, two_level_seen}
use Rattle.two_level_runs.specs.{Steps.IsFastRun, Inside.AreOnStack, Inside.AreBelow, Inside.FollowsInside}
use Rattle.two_level_runs.specs.Outer.{HasFastCode}

-- The slow run's plan without fast runs: requests at the levels' places that write nothing.
abbrev pub request_of : Level → Request
request_of l = record { sample = l.sample; moment = l.moment; writes = [] }

abbrev pub plan_of : List Level → List Request
plan_of levels = map request_of levels

-- the fast runs that were told of, in their order
abbrev pub runs_told : List (Option FastSeen) → List FastSeen
runs_told ts = filter_map (λ t. t) ts

abbrev pub fast_runs : List TwoLevelSeen → List FastSeen
fast_runs rows = flat_map (λ r. runs_told r.fast) rows

-- those of the run
abbrev pub fast_runs_of : Two → List (List ℕ) → List (List ℕ) → List Level → ℕ → List FastSeen
fast_runs_of two slow fast levels flags = fast_runs (two_level_seen two slow fast levels flags)

abbrev pub answer_of_fast : FastSeen → Answer
answer_of_fast f = record { values = f.answers; instructions = f.instrs }

-- the fast outputs after what a level told, and after what levels told, the last first
abbrev pub outputs_told : Block → List (List ℕ) → (ℕ → ℕ) → Option FastSeen → ℕ → ℕ
outputs_told b fast before None = before
outputs_told b fast before (Some f) = λ o. answer Byte b o (bytes_of fast f.number) (before o)

abbrev pub outputs_after : Block → List (List ℕ) → List (Level × Option FastSeen) → ℕ → ℕ
outputs_after b fast [] = λ o. 0
outputs_after b fast (t ∷ done) = outputs_told b fast (outputs_after b fast done) t.1

-- the fast run of a level, whose interrupt began in v
abbrev pub run_of_level : Block → Two → ℕ → List (List ℕ) → Level → State → Ran ℕ (Unit {0})
run_of_level b two flags fast l v =
    fast_run flags (length b.outputs) (fast_most two.fast.step_bound) l.inner.items (entered (bytes_of fast l.fast) v)

-- What a level told of its fast run, after these outputs, where the slow run without interrupts is in `slow`. Its
-- interrupt began there: with these registers, but with SP below WAV's sums where they run, and with this memory but
-- for what is open and the stack below SP. It entered the fast code, and the run came to its return. What is told is
-- what is seen of that run, and is read off its run without inner requests: the number of its sample, which is one of
-- the fast ones; its steps and instructions; and its resumed count and frames, where an inner moment 0 counts as 1.
-- Each frame stands below the outer interrupt's, and none below the stack's start, nor is SP there at any boundary; and
-- each of its states simulates that of its run without inner requests.
pub record IsReadOff (b : Block) (two : Two) (flags : ℕ) (fast : List (List ℕ)) (before : ℕ → ℕ) (slow : State)
    (l : Level) (f : FastSeen) : Type 0 where
  pub number : f.number ≡ l.fast
  pub from : 1 ≤ f.number
  pub to : f.number ≤ length fast
  pub interrupted : State
  pub begins : Begins is_open_to_fast interrupted slow
  pub enters : IsEntered b (joint_memory two) (bytes_of fast l.fast) before
      (entered (bytes_of fast l.fast) interrupted)
  pub arrived : (run_of_level b two flags fast l interrupted).arrived ≡ true
  pub seen : f ≡ seen_of l.fast (length b.outputs) (run_of_level b two flags fast l interrupted)
  pub behind : State
  pub run : IsFastRun b (joint_memory two) flags (bytes_of fast l.fast) before
      (entered (bytes_of fast l.fast) interrupted) behind
  pub steps : f.steps ≡ suc run.further
  pub instrs : f.instrs ≡ counted flags f.steps (entered (bytes_of fast l.fast) interrupted)
  pub resumed : f.resumed
      ≡ resumed_of flags (λ m. max 1 m) (entered (bytes_of fast l.fast) interrupted) l.inner.items f.steps
  pub frames : f.frames
      ≡ frames_of flags (λ m. max 1 m) (entered (bytes_of fast l.fast) interrupted) l.inner.items f.steps
  pub stack : AreOnStack f.frames
  pub below : AreBelow (expected_frame true slow).sp f.frames
  pub follows : FollowsInside flags (length b.outputs) (fast_most two.fast.step_bound) l.inner.items f.steps
      (entered (bytes_of fast l.fast) interrupted)

-- What a level told: nothing where it has no fast sample, and else of its fast run.
abbrev pub IsTold : Block → Two → ℕ → List (List ℕ) → (ℕ → ℕ) → State → Level → Option FastSeen → Type 0
IsTold b two flags fast before slow l None = l.fast ≡ 0
IsTold b two flags fast before slow l (Some f) = IsReadOff b two flags fast before slow l f

-- in a slow sample that is given in s, at its moment, after these levels
abbrev pub IsToldFrom : Block → Two → ℕ → List (List ℕ) → State → List (Level × Option FastSeen)
    → Level × Option FastSeen → Type 0
IsToldFrom b two flags fast s done t =
    let l : Level = t.0 in
    IsTold b two flags fast (outputs_after b fast done) (uninterrupted flags l.moment s) l t.1

-- What levels told, after others, in slow samples from s on, which take so many steps each.
abbrev pub AreTold : Block → Two → ℕ → List (List ℕ) → List (Level × Option FastSeen)
    → List (List (Level × Option FastSeen)) → List ℕ → List (List ℕ) → State → Type 0
AreTold b two flags fast done [] ns samples s = Unit {0}
AreTold b two flags fast done (ts ∷ tss) [] samples s = ⊥
AreTold b two flags fast done (ts ∷ tss) (n ∷ ns) [] s = ⊥
AreTold b two flags fast done (ts ∷ tss) (n ∷ ns) (x ∷ rest) s =
    (let given_in = given two.firmware.memory_map x s in
    EachTold (IsToldFrom b two flags fast given_in) done ts
    × AreTold b two flags fast (onto ts done) tss ns rest (uninterrupted flags n given_in))

-- the levels that are taken, sample by sample from number k on, where the samples take so many steps
abbrev pub taken_by : ℕ → List Level → List ℕ → List (List Level)
taken_by k levels [] = []
taken_by k levels (n ∷ ns) = taken_before (λ l. l.moment) n (levels_of k levels) ∷ taken_by (suc k) levels ns

-- the values of the uninterrupted answers to a list of samples
abbrev pub UninterruptedValues : Firmware → ℕ → List (List ℕ) → List (List ℕ) → Type 0
UninterruptedValues f flags samples values =
    (answers : List Answer) × (AreUninterrupted f flags samples answers × (map (λ a. a.values) answers ≡ values))

-- A run at two levels. It comes to the end of each slow sample, without a trap. Its slow rows are those of the slow
-- firmware alone under a plan at the same places that writes nothing: so are their answers, which are the slow block's,
-- counts and frames. The levels that are taken are those before the end of their sample. Each fast run answers its
-- sample, which is one of the fast ones, as the fast block over bytes, after the fast run before it, by at most so many
-- instructions and steps; it begins where the slow run without interrupts is at its level's moment, and what is told of
-- it is read off its run without inner requests; their answers are also those of the whole instructions of the fast
-- firmware alone, one sample after the other. Each state of the slow run simulates that of the slow firmware alone
-- without interrupts, which touches nothing of the fast block's, has SP on the stack, and holds the fast code. No frame
-- of either level stands below the stack's start.
pub record AnswersAtTwoLevels (slow fast : Block) (two : Two) (flags : ℕ) (slow_samples fast_samples : List (List ℕ))
    (levels : List Level) : Type 0 where
  pub arrived : (two_rows two slow_samples fast_samples levels flags).arrived ≡ true
  pub rows_are : (two_rows two slow_samples fast_samples levels flags).rows
      ≡ (firmware_rows (slow_alone slow two) slow_samples (plan_of levels) flags).rows
  pub slow_answers : AnswerBlock slow (slow_alone slow two) flags slow_samples
      (two_rows two slow_samples fast_samples levels flags).rows
  pub ns : List ℕ
  pub complete : AllComplete (FactsBeside is_open_to_fast flags (slow_alone slow two))
      (two_level_form flags two fast_samples) ns slow_samples (first_state (slow_alone slow two) flags)
  pub simulates : RowsSimulate OnStackOrNone is_open_to_fast (two_level_form flags two fast_samples) ns slow_samples
      (two_rows two slow_samples fast_samples levels flags).states (first_state (slow_alone slow two) flags)
  pub low : All (λ ws. All (λ w. stack_start ≤ w.regs.sp) ws)
      (two_rows two slow_samples fast_samples levels flags).states
  pub code : All (λ ws. All (λ w. HasFastCode (joint_memory two) w.mem) ws)
      (two_rows two slow_samples fast_samples levels flags).states
  pub taken : map (λ ts. asked ts) (two_rows two slow_samples fast_samples levels flags).told
      ≡ taken_by 1 levels (map (λ r. r.steps) (two_rows two slow_samples fast_samples levels flags).rows)
  pub fast_numbers : All (λ f. (1 ≤ f.number) × (f.number ≤ length fast_samples))
      (fast_runs_of two slow_samples fast_samples levels flags)
  pub fast_answers : AreAnswersOf Byte fast (fast_most two.fast.instr_bound) (λ o. 0)
      (map (λ f. bytes_of fast_samples f.number) (fast_runs_of two slow_samples fast_samples levels flags))
      (map answer_of_fast (fast_runs_of two slow_samples fast_samples levels flags))
  pub fast_uninterrupted : (f : Firmware) → IsAlone fast f → UninterruptedValues f flags
      (map (λ f. bytes_of fast_samples f.number) (fast_runs_of two slow_samples fast_samples levels flags))
      (map (λ f. f.answers) (fast_runs_of two slow_samples fast_samples levels flags))
  pub fast_steps : All (λ f. f.steps ≤ fast_most two.fast.step_bound)
      (fast_runs_of two slow_samples fast_samples levels flags)
  pub told : AreTold fast two flags fast_samples [] (two_rows two slow_samples fast_samples levels flags).told
      (map (λ r. r.steps) (two_rows two slow_samples fast_samples levels flags).rows) slow_samples
      (first_state (slow_alone slow two) flags)
  pub stack : All (λ r. AreOnStack r.frames) (two_rows two slow_samples fast_samples levels flags).rows

-- Each row is seen with what its levels told of their fast runs.
abbrev pub RowsAreSeen : Type 0
RowsAreSeen =
    (two : Two) (slow fast : List (List ℕ)) (levels : List Level) (flags : ℕ)
    → map (λ r. r.row) (two_level_seen two slow fast levels flags) ≡ (two_rows two slow fast levels flags).rows

-- So does each run over samples of two valid blocks, where the image is that of both.
abbrev pub AnswersItsBlocks : Two → ℕ → List (List ℕ) → List (List ℕ) → List Level → Type 0
AnswersItsBlocks two flags slow_samples fast_samples levels =
    (slow fast : Block) → IsValid slow → IsWithinLimits slow → IsValid fast → IsWithinLimits fast
    → IsTwoOf slow fast two → All (AreInputBytes slow) slow_samples → All (AreInputBytes fast) fast_samples
    → AnswersAtTwoLevels slow fast two flags slow_samples fast_samples levels

-- Under all good levels they do.
abbrev pub AnswersUnderLevels : Type 0
AnswersUnderLevels =
    (two : Two) (flags : ℕ) (slow fast : List (List ℕ)) (levels : List Level) → flags < 2 ^ 8
    → AreGoodLevels (length fast) levels → AnswersItsBlocks two flags slow fast levels

-- The rows of a block's firmware, by what it answers without interrupts.
-- Beside the promise.
use Rattle.std.specs.Prelude.{◌≡◌, ℕ, ◌^◌, ◌<◌, ◌≤◌, Bool, true, List, All, map, slice_index}
use Rattle.fuzzy_meaning.specs.{declared.block.Block.Block, Blocks.IsValid}
use Rattle.rule_layout.specs.Layouts.{IsWithinLimits}
use Rattle.cpu12_isa.specs.Agreement.{Agree}
use Rattle.cpu12_parts.specs.State.{State}
use Rattle.cpu12_emul.specs.{Image.image_memory, Simulation.Same, Step.reset_with}
use Rattle.firmware_code.specs.{Arrivals.LeavesMapped, declared.firmware.Firmware.Firmware}
use Rattle.alone_code.specs.Firmwares.{IsFirmwareOf}
use Rattle.firmware_code.specs.Uninterrupted.{Answer, AreUninterrupted, AreAnswersOf}
use Rattle.interrupt_plan.specs.{declared.Request.Request, Plans.IsGood}
use Rattle.eval_code.specs.{Bounds.step_bound, Firing.AreInputBytes}
use Rattle.run_law.specs.{Forms.RowSeen, Following.AllComplete, Following.AllWithin}
use Rattle.alone_runs.specs.{Forms.with_writes, Rows.first_state, Rows.firmware_rows}
use Rattle.alone_runs.specs.Following.{IsLow, rows_of_samples, AllWait, FollowsAlone}
use Rattle.run_forms.specs.Rows.{arrival}
use Rattle.firmware_runs.specs.Facts.{FactsBeside, FactsAlone}

-- a row's answers and its number of instructions
abbrev pub answer_of_row : RowSeen (List ℕ) → Answer
answer_of_row row = record { values = row.answers; instructions = row.instrs }

-- Rows are a block's answers: each is of its sample; its answers and instructions are those without interrupts, which
-- are the block's over bytes, each after the one before, within the bound; and no row has more steps than the bound
-- says.
pub record AnswerBlock (b : Block) (f : Firmware) (flags : ℕ) (samples : List (List ℕ)) (rows : List (RowSeen
    (List ℕ))) : Type 0 where
  pub samples_are : map (λ r. r.sample) rows ≡ samples
  pub uninterrupted : AreUninterrupted f flags samples (map answer_of_row rows)
  pub answers : AreAnswersOf f.width b f.instr_bound (λ o. 0) samples (map answer_of_row rows)
  pub steps : All (λ r. r.steps ≤ step_bound f.width b) rows

-- What a block's firmware gives under a plan: rows that are the block's answers; the run without interrupts from the
-- first arrival answers all samples, and its states keep the facts, those in which it waits too; the rows are read
-- off it; and the run under the plan follows it.
pub record AnswersUnder (b : Block) (f : Firmware) (flags : ℕ) (samples : List (List ℕ)) (plan : List Request)
    (rows : List (RowSeen (List ℕ))) : Type 0 where
  pub answers : AnswerBlock b f flags samples rows
  pub ns : List ℕ
  pub complete : AllComplete (FactsAlone flags f) (with_writes flags f) ns samples (first_state f flags)
  pub waits : AllWait flags f ns samples (first_state f flags)
  pub rows_are : rows ≡ rows_of_samples flags f plan 1 ns samples (first_state f flags)
  pub follows : FollowsAlone flags f f.step_bound plan ns samples (first_state f flags)

-- so are rows, where the firmware is one of a valid block
abbrev pub AnswersItsBlock : Firmware → ℕ → List (List ℕ) → List Request → List (RowSeen (List ℕ)) → Type 0
AnswersItsBlock f flags samples plan rows =
    (b : Block) → IsValid b → IsWithinLimits b → IsFirmwareOf b f → All (AreInputBytes b) samples
    → AnswersUnder b f flags samples plan rows

-- The firmware of a block answers every list of samples so under every good plan.
abbrev pub AnswersUnderPlans : Type 0
AnswersUnderPlans = (f : Firmware) (flags : ℕ) (samples : List (List ℕ)) (plan : List Request) → flags < 2 ^ 8
    → IsGood plan
    → AnswersItsBlock f flags samples plan (firmware_rows f samples plan flags).rows

-- The run of a firmware without interrupts from its first arrival: it answers all samples, each in at most as many
-- steps
-- as the bound says, and its states keep the facts beside handlers to which these bytes are open.
pub record RunsBeside (open_to : ℕ → Bool) (f : Firmware) (flags : ℕ) (samples : List (List ℕ)) : Type 0 where
  pub low : IsLow f
  pub ns : List ℕ
  pub within : AllWithin f.step_bound ns
  pub complete : AllComplete (FactsBeside open_to flags f) (with_writes flags f) ns samples (first_state f flags)

-- So the firmware of a block runs beside handlers to which anything is open that leaves its memory map alone.
abbrev pub FirmwareRunsBeside : Type 0
FirmwareRunsBeside =
    (open_to : ℕ → Bool) (b : Block) (f : Firmware) (flags : ℕ) (samples : List (List ℕ)) → flags < 2 ^ 8
    → LeavesMapped open_to f.memory_map → IsValid b → IsWithinLimits b → IsFirmwareOf b f
    → All (AreInputBytes b) samples
    → RunsBeside open_to f flags samples

-- The first state over a memory that is the image's but for open bytes: it is the same but for these, which are as
-- they were.
pub record FirstAlike (open_to : ℕ → Bool) (f : Firmware) (flags : ℕ) (mem : List ℕ) (w : State) : Type 0 where
  pub regs : w.regs ≡ (first_state f flags).regs
  pub temps : w.temps ≡ (first_state f flags).temps
  pub bytes : Agree open_to w.mem (first_state f flags).mem
  pub open_bytes : (at : ℕ) → open_to at ≡ true → slice_index w.mem at ≡ slice_index mem at

abbrev pub FirstStatesAlike : Type 0
FirstStatesAlike =
    (open_to : ℕ → Bool) (b : Block) (f : Firmware) (flags : ℕ) (mem : List ℕ) → flags < 2 ^ 8
    → LeavesMapped open_to f.memory_map → IsValid b → IsWithinLimits b → IsFirmwareOf b f
    → Agree open_to mem (image_memory f.image.bytes)
    → FirstAlike open_to f flags mem (arrival flags f.memory_map.wait f.step_bound (reset_with mem))

-- Such a state is the first one but for what is hidden.
abbrev pub FirstStatesAgree : Type 0
FirstStatesAgree =
    (open_to : ℕ → Bool) (f : Firmware) (flags : ℕ) (mem : List ℕ) (w : State) → FirstAlike open_to f flags mem w
    → Same open_to w (first_state f flags)

-- What a firmware that stands alone answers, and what is known at each of its instructions.
-- Beside the promise.
use Rattle.std.specs.Prelude.{◌≡◌, ℕ, ◌^◌, ◌<◌, ◌≤◌, Bool, true, List, [], ◌∷◌, length, All, slice_index}
use Rattle.fuzzy_meaning.specs.{declared.block.Block.Block, Blocks.IsValid}
use Rattle.rule_layout.specs.Layouts.{IsWithinLimits}
use Rattle.cpu12_isa.specs.{Agreement.Agree, Regions.is_free}
use Rattle.cpu12_parts.specs.{State.State, Whole.PlainExecution, Executions.Execution, Executions.all_steps}
use Rattle.cpu12_emul.specs.{Image.image_memory, Step.reset_with}
use Rattle.eval_code.specs.declared.memory_map.MemoryMap.{MemoryMap}
use Rattle.eval_code.specs.{Widths.answer, Evaluation.HasAnswers, Bounds.steps_by, Firing.AreInputBytes}
use Rattle.byte_scaling.specs.declared.width.Width.{Width}
use Rattle.firmware_code.specs.declared.firmware.Firmware.{Firmware}
use Rattle.firmware_code.specs.Arrivals.{given, IsArrived, IsArrivedBeside, LeavesMapped}
use Rattle.firmware_code.specs.Interruptible.{is_idle, IsInterruptible, IsInterruptibleStep}
use Rattle.alone_code.specs.Firmwares.{IsFirmwareOf}

-- From where a sample is given at most so many whole instructions lead to where the code waits again, with the answers
-- after those before, and no more steps than that says.
pub record IsAnsweredBeside (open_to : ℕ → Bool) (l : MemoryMap) (b : Block) (w : Width) (most : ℕ) (image : List ℕ)
    (flags : ℕ) (before : ℕ → ℕ) (bytes : List ℕ) (s t : State) : Type 0 where
  pub ds : List ℕ
  pub execution : Execution (IsInterruptibleStep open_to l image flags) ds (given l bytes s) t
  pub idle : is_idle l t ≡ true
  pub interruptible : IsInterruptible open_to image t
  pub answers : HasAnswers l b w (λ o. answer w b o bytes (before o)) t.mem
  pub instructions : length ds ≤ most
  pub steps : all_steps ds ≤ steps_by b most

-- a list of samples, each answered after the one before
abbrev pub AreAnsweredBeside : (ℕ → Bool) → MemoryMap → Block → Width → ℕ → List ℕ → ℕ → (ℕ → ℕ) → List (List ℕ) → State
    → Type 0
AreAnsweredBeside open_to l b w most image flags before [] s = Unit {0}
AreAnsweredBeside open_to l b w most image flags before (bytes ∷ samples) s =
    (t : State) × (IsAnsweredBeside open_to l b w most image flags before bytes s t
    × AreAnsweredBeside open_to l b w most image flags (λ o. answer w b o bytes (before o)) samples t)

abbrev pub AreAnswered : MemoryMap → Block → Width → ℕ → List ℕ → ℕ → (ℕ → ℕ) → List (List ℕ) → State → Type 0
AreAnswered = AreAnsweredBeside is_free

-- A firmware answers every list of samples of a block so from reset, within its bound, whatever the open flags are.
abbrev pub AnswersFrom : Block → Firmware → Type 0
AnswersFrom b f = (flags : ℕ) (samples : List (List ℕ)) → flags < 2 ^ 8 → All (AreInputBytes b) samples
    → (s : State) × (IsArrived f.memory_map (image_memory f.image.bytes) flags s
    × AreAnswered f.memory_map b f.width f.instr_bound (image_memory f.image.bytes) flags (λ o. 0) samples s)

-- The firmware of a block does.
abbrev pub FirmwareAnswers : Type 0
FirmwareAnswers = (b : Block) (f : Firmware) → IsValid b → IsWithinLimits b → IsFirmwareOf b f → AnswersFrom b f

-- The same beside handlers to which more is open.
abbrev pub AnswersBeside : (ℕ → Bool) → Block → Firmware → Type 0
AnswersBeside open_to b f =
    (flags : ℕ) (samples : List (List ℕ)) → flags < 2 ^ 8 → All (AreInputBytes b) samples
    → (s : State) × (IsArrivedBeside open_to f.memory_map (image_memory f.image.bytes) flags s
    × AreAnsweredBeside open_to f.memory_map b f.width f.instr_bound (image_memory f.image.bytes) flags
    (λ o. 0)
    samples s)

-- The firmware of a block does, beside handlers to which anything is open that leaves its memory map alone.
abbrev pub FirmwareAnswersBeside : Type 0
FirmwareAnswersBeside = (open_to : ℕ → Bool) (b : Block) (f : Firmware) → LeavesMapped open_to f.memory_map → IsValid b
    → IsWithinLimits b → IsFirmwareOf b f → AnswersBeside open_to b f

-- From reset over a memory that is the image's but for open bytes, instructions come where the code waits too: there
-- the registers are the same, and the bytes but for those that are open, which are as they were.
pub record ArrivesAlike (open_to : ℕ → Bool) (l : MemoryMap) (image mem : List ℕ) (flags : ℕ) : Type 0 where
  pub image_state : State
  pub state : State
  pub image_arrived : IsArrivedBeside open_to l image flags image_state
  pub execution : PlainExecution flags l.wait 3 (reset_with mem) state
  pub regs : state.regs ≡ image_state.regs
  pub temps : state.temps ≡ image_state.temps
  pub bytes : Agree open_to state.mem image_state.mem
  pub open_bytes : (at : ℕ) → open_to at ≡ true → slice_index state.mem at ≡ slice_index mem at

-- So does the firmware of a block.
abbrev pub FirmwareArrivesAlike : Type 0
FirmwareArrivesAlike = (open_to : ℕ → Bool) (b : Block) (f : Firmware) (mem : List ℕ) (flags : ℕ) → flags < 2 ^ 8
    → LeavesMapped open_to f.memory_map → IsValid b → IsWithinLimits b → IsFirmwareOf b f
    → Agree open_to mem (image_memory f.image.bytes)
    → ArrivesAlike open_to f.memory_map (image_memory f.image.bytes) mem flags

-- EVAL called from code around it.
-- Beside the promise.
use Rattle.std.specs.Prelude.{◌≡◌, ℕ, ◌+◌, ◌-◌, ◌<◌, ◌≤◌, ◌⊎◌, Bool, List, length, slice_index}
use Rattle.fuzzy_meaning.specs.{declared.block.Block.Block, Blocks.IsValid}
use Rattle.rule_layout.specs.{Layouts.IsWithinLimits, Slots.slots_of}
use Rattle.cpu12_isa.specs.{declared.instr.Instr.TheVariants.Rts, Code.encode_of, Regions.stack_end}
use Rattle.cpu12_parts.specs.{Executions.Execution, Executions.all_steps, State.State}
use Rattle.eval_code.specs.{declared.memory_map.MemoryMap.MemoryMap, Bounds.instruction_bound, Bounds.step_bound}
use Rattle.eval_code.specs.Evaluation.{HasBytes, HasEval, HasAnswers, eval_bytes}
use Rattle.byte_scaling.specs.declared.width.Width.{Width}
use Rattle.eval_code.specs.{Firing.AreInputBytes, Items.IsApart, Placed.eval_room, Widths.answer}
use Rattle.firmware_code.specs.Interruptible.{IsInterruptible, IsInterruptibleStep}
use Rattle.firmware_code.specs.Settings.{Setting, Live, code_room, return_address}

-- EVAL stands in the code
pub record IsInCode (l : MemoryMap) : Type 0 where
  pub from : l.code ≤ l.eval
  pub to : l.eval + 2432 ≤ l.code + code_room

-- EVAL and its return stand in the image, above where the code waits, and leave room behind them and behind the slots
pub record HasRoutine (l : MemoryMap) (b : Block) (w : Width) (image : List ℕ) : Type 0 where
  pub above : l.wait < l.eval
  pub inside : IsInCode l
  pub eval : HasEval l b w image
  pub back : HasBytes image (l.eval + length (eval_bytes l b w)) (encode_of Rts)
  pub room : length (eval_bytes l b w) ≤ eval_room
  pub few_slots : length (slots_of b) ≤ 300

-- EVAL was called from an address with these bytes of inputs and these answers before
pub record IsCalled (open_to : ℕ → Bool) (l : MemoryMap) (b : Block) (w : Width) (image : List ℕ) (back : ℕ)
    (bytes : List ℕ) (before : ℕ → ℕ) (s : State) : Type 0 where
  pub interruptible : IsInterruptible open_to image s
  pub pc : s.regs.pc ≡ l.eval
  pub sp : s.regs.sp ≡ stack_end - 2
  pub back_is : return_address s.mem ≡ back
  pub inputs : HasBytes s.mem l.inputs bytes
  pub outputs : HasAnswers l b w before s.mem

-- back at the caller, with the answers; outside their bytes and the slots memory is as it was. Around the call five
-- instructions have room in the bounds.
pub record Back (c : Setting) (b : Block) (w : Width) (back : ℕ) (bytes : List ℕ) (before : ℕ → ℕ) (s : State)
    : Type 0 where
  pub t : State
  pub ds : List ℕ
  pub execution : Execution (IsInterruptibleStep c.open_to c.memory_map c.image c.flags) ds s t
  pub live : Live c t
  pub pc_is : t.regs.pc ≡ back
  pub sp_is : t.regs.sp ≡ stack_end
  pub answers : HasAnswers c.memory_map b w (λ o. answer w b o bytes (before o)) t.mem
  pub elsewhere : (at : ℕ) → (at < c.memory_map.outputs) ⊎ (c.memory_map.outputs + 8 ≤ at)
      → (at < c.memory_map.slots) ⊎ (c.memory_map.slots + 300 ≤ at) → slice_index t.mem at ≡ slice_index s.mem at
  pub instructions : length ds + 5 ≤ instruction_bound w b
  pub steps : all_steps ds + 5 ≤ step_bound w b

-- So it comes back wherever it was called.
abbrev pub CalledEvalReturns : Type 0
CalledEvalReturns =
    (c : Setting) (b : Block) (w : Width) (back : ℕ) (bytes : List ℕ) (before : ℕ → ℕ) (s : State)
    → IsApart c.memory_map
    → IsValid b → IsWithinLimits b → HasRoutine c.memory_map b w c.image → AreInputBytes b bytes
    → IsCalled c.open_to c.memory_map b w c.image back bytes before s → Back c b w back bytes before s

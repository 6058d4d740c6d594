-- The frame of a firmware that stands alone, around whatever it calls.
-- Beside the promise.
use Rattle.std.specs.Prelude.{◌≡◌, ℕ, ◌+◌, ◌-◌, ◌^◌, ◌<◌, ◌≤◌, ◌⊎◌, true, false, List, [], ◌∷◌, length}
use Rattle.std.specs.Prelude.{slice_index, slice_set}
use Rattle.fuzzy_meaning.specs.{declared.block.Block.Block, Blocks.IsValid}
use Rattle.cpu12_isa.specs.{declared.instr.Instr.Instr, Agreement.Agree, Code.code_bytes, Memory.high_of, Memory.low_of}
use Rattle.cpu12_isa.specs.Regions.{free_start, stack_end}
use Rattle.cpu12_isa.specs.declared.instr.Instr.TheVariants.{LdsImmediate, ClrExtended, Andcc}
use Rattle.cpu12_parts.specs.{Executions.Execution, Executions.all_steps, State.State}
use Rattle.cpu12_parts.specs.Whole.{after_plain, PlainExecution}
use Rattle.cpu12_emul.specs.Step.{reset_with}
use Rattle.eval_code.specs.declared.memory_map.MemoryMap.{MemoryMap}
use Rattle.byte_scaling.specs.declared.width.Width.{Width}
use Rattle.eval_code.specs.{Data.bytes_of_word, Evaluation.HasBytes, Evaluation.HasAnswers}
use Rattle.eval_code.specs.Items.{IsApart}
use Rattle.firmware_code.specs.{Code.frame_code, Interruptible.IsInterruptibleStep, Standing.HasFirmware}
use Rattle.firmware_code.specs.Settings.{Setting, Live}

-- where the code of a form starts that sets up its stack, clears the byte by which samples come and lets interrupts in
pub record IsStarted (l : MemoryMap) : Type 0 where
  pub low : stack_end ≤ l.code
  pub high : l.code + 2432 + 90 < 65536
  pub wait : l.wait ≡ l.code + 8
  pub ready : l.sample_flag < free_start
  pub apart : (l.sample_flag < l.outputs) ⊎ (l.outputs + 8 ≤ l.sample_flag)

abbrev pub start_code : MemoryMap → List Instr
start_code l = LdsImmediate stack_end ∷ ClrExtended l.sample_flag ∷ Andcc 0xEF ∷ []

-- the state in which the code waits first, from a memory
abbrev pub first_waiting : ℕ → MemoryMap → List ℕ → State
first_waiting flags l m =
    after_plain flags (Andcc 0xEF)
    (after_plain flags (ClrExtended l.sample_flag) (after_plain flags (LdsImmediate stack_end) (reset_with m)))

-- what holds each time the code waits
pub record Home (c : Setting) (b : Block) (w : Width) (before : ℕ → ℕ) (s : State) : Type 0 where
  pub live : Live c s
  pub pc_is : s.regs.pc ≡ c.memory_map.wait
  pub sp_is : s.regs.sp ≡ stack_end
  pub outs : HasAnswers c.memory_map b w before s.mem
  pub ready_is : slice_index s.mem c.memory_map.sample_flag ≡ 0

-- the first arrival, by three plain instructions from reset
pub record Arrived (c : Setting) (b : Block) (w : Width) : Type 0 where
  pub t : State
  pub first : t ≡ first_waiting c.flags c.memory_map c.image
  pub execution : PlainExecution c.flags c.memory_map.wait 3 (reset_with c.image) t
  pub home : Home c b w (λ o. 0) t

-- Code that starts so arrives.
abbrev pub StartArrives : Type 0
StartArrives =
    (c : Setting) (b : Block) (w : Width) (before : List Instr) → IsStarted c.memory_map → IsApart c.memory_map
    → IsValid b
    → HasBytes c.image c.memory_map.code (code_bytes (start_code c.memory_map)) → HasFirmware c.memory_map b w before
    c.image
    → Arrived c b w

-- From a memory that agrees with the image's where it is not open, it arrives in the same state but for these bytes,
-- which are as they were.
pub record ArrivedAlike (c : Setting) (mem : List ℕ) : Type 0 where
  pub state : State
  pub execution : PlainExecution c.flags c.memory_map.wait 3 (reset_with mem) state
  pub regs : state.regs ≡ (first_waiting c.flags c.memory_map c.image).regs
  pub temps : state.temps ≡ (first_waiting c.flags c.memory_map c.image).temps
  pub bytes : Agree c.open_to state.mem (first_waiting c.flags c.memory_map c.image).mem
  pub open_bytes : (at : ℕ) → c.open_to at ≡ true → slice_index state.mem at ≡ slice_index mem at

abbrev pub StartArrivesAlike : Type 0
StartArrivesAlike =
    (c : Setting) (mem : List ℕ) → IsStarted c.memory_map → c.open_to c.memory_map.sample_flag ≡ false
    → ((at : ℕ) → 0xFFFE ≤ at → at < 2 ^ 16 → c.open_to at ≡ false)
    → HasBytes c.image 0xFFFE (bytes_of_word c.memory_map.code)
    → HasBytes c.image c.memory_map.code (code_bytes (start_code c.memory_map)) → length c.image ≡ 65536
    → Agree c.open_to mem c.image → ArrivedAlike c mem

-- where the frame of a firmware stands that stands alone
pub record IsFramed (l : MemoryMap) : Type 0 where
  pub started : IsStarted l
  pub ready : l.sample_flag < l.inputs
  pub samples : l.samples ≡ l.inputs
  pub eval : l.eval < 65536

-- at most so many whole instructions lead to an address, with this SP and this memory
pub record Leads (c : Setting) (most : ℕ) (s : State) (pc sp : ℕ) (mem : List ℕ) : Type 0 where
  pub t : State
  pub ds : List ℕ
  pub execution : Execution (IsInterruptibleStep c.open_to c.memory_map c.image c.flags) ds s t
  pub instructions : length ds ≤ most
  pub steps : all_steps ds ≤ most
  pub live : Live c t
  pub pc_is : t.regs.pc ≡ pc
  pub sp_is : t.regs.sp ≡ sp
  pub mem_is : t.mem ≡ mem

-- With a sample the frame leads to what it calls, with the return address on the stack.
abbrev pub Called : Setting → State → Type 0
Called c s =
    Leads c 3 s c.memory_map.eval (stack_end - 2)
    (slice_set (slice_set s.mem (stack_end - 2) (high_of (c.memory_map.wait + 8))) (stack_end - 1)
    (low_of (c.memory_map.wait + 8)))

-- From there it leads back to where the code waits, and clears READY.
abbrev pub Left : Setting → State → Type 0
Left c s = Leads c 2 s c.memory_map.wait s.regs.sp (slice_set s.mem c.memory_map.sample_flag 0)

-- it does both
pub record CallsAndLeaves (c : Setting) : Type 0 where
  pub calls : (s : State) → Live c s → s.regs.pc ≡ c.memory_map.wait → s.regs.sp ≡ stack_end
      → slice_index s.mem c.memory_map.sample_flag ≡ 1 → Called c s
  pub leaves : (s : State) → Live c s → s.regs.pc ≡ c.memory_map.wait + 8 → Left c s

-- A frame that stands in the image does.
abbrev pub FrameCallsAndLeaves : Type 0
FrameCallsAndLeaves =
    (c : Setting) → c.open_to c.memory_map.sample_flag ≡ false → IsFramed c.memory_map → IsApart c.memory_map
    → HasBytes c.image c.memory_map.code (code_bytes (frame_code c.memory_map)) → CallsAndLeaves c

-- The first arrival where the code waits, a sample that is given there, and what handlers leave alone.
-- Beside the promise.
use Rattle.std.specs.Prelude.{◌≡◌, ℕ, ◌^◌, ◌<◌, ◌≤◌, Bool, true, false, List, slice_set}
use Rattle.cpu12_isa.specs.{Regions.stack_start, Regions.stack_end, Regions.is_free}
use Rattle.cpu12_parts.specs.{State.State, Whole.PlainExecution}
use Rattle.cpu12_emul.specs.Step.{reset_with}
use Rattle.eval_code.specs.declared.memory_map.MemoryMap.{MemoryMap}
use Rattle.eval_code.specs.{Evaluation.put, Evaluation.Reads, Evaluation.Writes, MemoryMaps.main_map}
use Rattle.firmware_code.specs.Interruptible.{is_idle, IsInterruptible}

-- the first arrival where the code waits, by three plain instructions from reset, beside handlers to which these bytes
-- are open
pub record IsArrivedBeside (open_to : ℕ → Bool) (l : MemoryMap) (image : List ℕ) (flags : ℕ) (s : State) : Type 0 where
  pub execution : PlainExecution flags l.wait 3 (reset_with image) s
  pub wait : s.regs.pc ≡ l.wait
  pub idle : is_idle l s ≡ true
  pub interruptible : IsInterruptible open_to image s

-- so it is beside handlers to which the free bytes are open
abbrev pub IsArrived : MemoryMap → List ℕ → ℕ → State → Type 0
IsArrived = IsArrivedBeside is_free

-- a sample's bytes and READY are written
abbrev pub given : MemoryMap → List ℕ → State → State
given l bytes s = record s { mem = slice_set (put s.mem l.samples bytes) l.sample_flag 1 }

-- What is open to handlers leaves a memory map alone: it is neither what EVAL reads and writes, nor the stack, nor
-- between the first byte of the code and the tables, nor the reset vector.
pub record LeavesMapped (open_to : ℕ → Bool) (l : MemoryMap) : Type 0 where
  pub ready : open_to l.sample_flag ≡ false
  pub reads : (at : ℕ) → Reads l at → open_to at ≡ false
  pub writes : (at : ℕ) → Writes l at → open_to at ≡ false
  pub stack : (at : ℕ) → stack_start ≤ at → at < stack_end → open_to at ≡ false
  pub code : (at : ℕ) → l.code ≤ at → at < l.tables → open_to at ≡ false
  pub reset : (at : ℕ) → 0xFFFE ≤ at → at < 2 ^ 16 → open_to at ≡ false

-- So do the free bytes.
abbrev pub FreeBytesLeave : Type 0
FreeBytesLeave = LeavesMapped is_free main_map

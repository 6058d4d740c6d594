-- The run without interrupts leaves alone what is open to handlers.
-- Beside the promise.
use Rattle.std.specs.Prelude.{◌≡◌, ℕ, ◌+◌, ◌<◌, ◌≤◌, Bool, true, false, List, length, slice_index}
use Rattle.cpu12_isa.specs.Regions.{LeavesStack}
use Rattle.cpu12_parts.specs.{State.State, Parts.suspended, Parts.wav}
use Rattle.cpu12_emul.specs.Simulation.{OnStackOrNone, Simulates}
use Rattle.run_law.specs.Uninterrupted.{stepped}
use Rattle.eval_code.specs.declared.memory_map.MemoryMap.{MemoryMap}
use Rattle.firmware_code.specs.declared.firmware.Firmware.{Firmware}
use Rattle.firmware_runs.specs.{Ports.given, Facts.FactsBeside}

-- the open bytes are as they were
abbrev pub AreOpenAlike : (ℕ → Bool) → List ℕ → List ℕ → Type 0
AreOpenAlike open_to m n = (at : ℕ) → open_to at ≡ true → slice_index n at ≡ slice_index m at

-- A step leaves the open bytes as they were, and so does the push of the sums before an interrupt.
pub record StepLeavesOpen (open_to : ℕ → Bool) (flags : ℕ) (w : State) : Type 0 where
  pub steps : AreOpenAlike open_to w.mem (stepped flags w).mem
  pub pushes : AreOpenAlike open_to w.mem (suspended wav w).mem

-- So does each state of a run under interrupts that simulates one with the facts.
abbrev pub StepsLeaveOpen : Type 0
StepsLeaveOpen =
    (open_to : ℕ → Bool) (flags : ℕ) (f : Firmware) (w s : State) → LeavesStack open_to
    → FactsBeside open_to flags f s → Simulates OnStackOrNone open_to w s → StepLeavesOpen open_to flags w

-- A sample of at most eight bytes does, where its bytes and READY are not open.
abbrev pub GivenLeavesOpen : Type 0
GivenLeavesOpen =
    (open_to : ℕ → Bool) (l : MemoryMap) (bytes : List ℕ) (w : State) → length bytes ≤ 8 → l.samples + 8 ≤ 65536
    → open_to l.sample_flag ≡ false
    → ((at : ℕ) → l.samples ≤ at → at < l.samples + 8 → open_to at ≡ false)
    → AreOpenAlike open_to w.mem (given l bytes w).mem

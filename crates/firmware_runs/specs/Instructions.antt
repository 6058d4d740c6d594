-- Whole instructions as steps.
-- Beside the promise.
use Rattle.std.specs.Prelude.{◌≡◌, ℕ, ◌^◌, ◌<◌, Bool, false, List, length}
use Rattle.cpu12_isa.specs.{Agreement.AgreeFrom, Regions.stack_end}
use Rattle.cpu12_parts.specs.{State.State, Executions.Execution, Executions.all_steps}
use Rattle.eval_code.specs.declared.memory_map.MemoryMap.{MemoryMap}
use Rattle.firmware_code.specs.Interruptible.{is_idle, IsInterruptibleStep, IsStackOfOneCall}
use Rattle.run_law.specs.{Uninterrupted.uninterrupted, Uninterrupted.counted, Soundness.Before}
use Rattle.firmware_runs.specs.Facts.{Facts}

-- The steps of whole instructions one after another lead from s to t: as many count as there are instructions, and P
-- holds at each state before t.
pub record AreSteps (P : State → Type 0) (flags : ℕ) (ds : List ℕ) (s t : State) : Type 0 where
  pub goes : uninterrupted flags (all_steps ds) s ≡ t
  pub counts : counted flags (all_steps ds) s ≡ length ds
  pub each : Before P flags (all_steps ds) s

-- what each state keeps in which a sample is being answered: it does not wait, and its bytes from $2000 on are those of
-- an image's memory
pub record IsServing (open_to : ℕ → Bool) (l : MemoryMap) (memory : List ℕ) (flags : ℕ) (s : State) : Type 0 where
  pub facts : Facts open_to flags s
  pub busy : is_idle l s ≡ false
  pub image : AgreeFrom stack_end memory s.mem
  pub stack : IsStackOfOneCall s.regs.sp

-- Whole instructions on a sample are such steps.
abbrev pub InstructionsAreSteps : Type 0
InstructionsAreSteps =
    (open_to : ℕ → Bool) (l : MemoryMap) (image : List ℕ) (flags : ℕ) (ds : List ℕ) (s t : State) → flags < 2 ^ 8
    → Execution (IsInterruptibleStep open_to l image flags) ds s t
    → AreSteps (IsServing open_to l image flags) flags ds s t

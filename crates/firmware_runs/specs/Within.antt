-- One whole instruction as steps, by the bytes that it touches.
-- Beside the promise.
use Rattle.std.specs.Prelude.{◌≡◌, ℕ, suc, ◌+◌, ◌^◌, ◌<◌, ◌≤◌, ◌⊎◌, Bool, true, false, Ok, slice_index}
use Rattle.cpu12_isa.specs.{declared.instr.Instr.TheVariants.Wav, Act.read_by, Agreement.AllShown, Code.decode_at}
use Rattle.cpu12_isa.specs.{Code.six_from, Flags.has, Flags.interrupts_masked, Memory.plus}
use Rattle.cpu12_isa.specs.Regions.{stack_start, stack_end, is_hidden}
use Rattle.cpu12_parts.specs.{State.State, Laws.AreKept, Laws.addresses}
use Rattle.cpu12_parts.specs.Touching.{Each, IsInstructionOver, IsBetween}
use Rattle.cpu12_emul.specs.{Simulation.IsShownStep, Step.step_act}
use Rattle.run_law.specs.{Uninterrupted.uninterrupted, Uninterrupted.counted, Soundness.Before}

-- A whole instruction stands at s, with room for an interrupt. Its own bytes are not hidden, and kept; what is not
-- hidden is shown beside handlers to which these bytes are open.
pub record IsReached (open_to hidden kept : ℕ → Bool) (s : State) : Type 0 where
  pub between : IsBetween s
  pub low : stack_start + 15 ≤ s.regs.sp
  pub high : s.regs.sp ≤ stack_end
  pub code : Each (λ at. hidden at ≡ false) (six_from s.regs.pc)
  pub stays : Each (λ at. kept at ≡ true) (six_from s.regs.pc)
  pub seen : (at : ℕ) → hidden at ≡ false → is_hidden open_to s.regs.sp at ≡ false

-- v stands behind a part of WAV that stands at s: at its second byte, with sums that run
pub record IsSumming (s v : State) : Type 0 where
  pub decoded : decode_at s.mem s.regs.pc ≡ Ok Wav
  pub pc : v.regs.pc ≡ plus s.regs.pc 1
  pub sums : AreKept v.temps

-- PC and the sums are as in s, or behind a part of WAV
abbrev pub IsAtPart : State → State → Type 0
IsAtPart s v = ((v.regs.pc ≡ s.regs.pc) × (v.temps ≡ s.temps)) ⊎ IsSumming s v

-- The state v before a step of the instruction at s: its step is shown, reads no hidden byte, writes no kept one, and
-- leaves SP no lower; SP, I and the kept bytes are as in s.
pub record IsWithin (open_to hidden kept : ℕ → Bool) (flags : ℕ) (s v : State) : Type 0 where
  pub shown : IsShownStep open_to flags v
  pub reads : AllShown hidden (read_by (step_act flags v.regs v.temps) v.mem)
  pub writes : AllShown kept (addresses shown.left.writes)
  pub rises : v.regs.sp ≤ shown.left.regs.sp
  pub stack : v.regs.sp ≡ s.regs.sp
  pub mask : has v.regs.ccr interrupts_masked ≡ has s.regs.ccr interrupts_masked
  pub same : (at : ℕ) → kept at ≡ true → slice_index v.mem at ≡ slice_index s.mem at
  pub place : IsAtPart s v

-- An instruction that reads no hidden byte, writes no kept one and leaves SP no lower is steps before each of which the
-- state is such, and one of which counts.
abbrev pub InstructionStaysWithin : Type 0
InstructionStaysWithin =
    (open_to hidden kept : ℕ → Bool) (flags d : ℕ) (s t : State) → flags < 2 ^ 8 → IsReached open_to hidden kept s
    → IsInstructionOver (λ at. hidden at ≡ false) (λ at. kept at ≡ false) flags d s t → s.regs.sp ≤ t.regs.sp
    → (uninterrupted flags (suc d) s ≡ t) × (counted flags (suc d) s ≡ 1)
    × Before (IsWithin open_to hidden kept flags s) flags (suc d) s

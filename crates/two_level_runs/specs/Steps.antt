-- The fast code as steps without interrupts.
-- Beside the promise.
use Rattle.std.specs.Prelude.{◌≡◌, ℕ, suc, ◌+◌, ◌^◌, ◌<◌, ◌≤◌, ◌⊎◌, ◌&&◌, ◌||◌, not, nat_le, nat_lt, Bool, true, false}
use Rattle.std.specs.Prelude.{Ok, List, length, slice_index}
use Rattle.fuzzy_meaning.specs.{declared.block.Block.Block, Blocks.IsValid}
use Rattle.rule_layout.specs.{Slots.slots_of, Layouts.IsWithinLimits}
use Rattle.cpu12_isa.specs.{declared.instr.Ccr.Ccr, declared.instr.Instr.TheVariants.Rti, Act.read_by}
use Rattle.cpu12_isa.specs.{Agreement.AllShown, Code.decode_at, Fits.AreBytes, Flags.has, Flags.x_masked, Memory.from}
use Rattle.cpu12_isa.specs.{Memory.bytes_at, Registers.pulled}
use Rattle.cpu12_parts.specs.{declared.temps.Temps.TheVariants.Free, State.State, Laws.IsOff, Laws.addresses}
use Rattle.cpu12_emul.specs.{Simulation.IsShownStep, Step.step_act, Take.may_interrupt}
use Rattle.byte_scaling.specs.declared.width.Width.TheVariants.{Byte}
use Rattle.eval_code.specs.Widths.{answer}
use Rattle.eval_code.specs.{Bounds.instruction_bound, Bounds.step_bound, Firing.AreInputBytes, Evaluation.HasAnswers}
use Rattle.run_law.specs.{Uninterrupted.stepped, Uninterrupted.uninterrupted, Uninterrupted.counted, Soundness.Before}
use Rattle.two_level_code.specs.MemoryMaps.{fast_map, is_fast_ram, is_fast_rom}
use Rattle.two_level_code.specs.Running.{HasFastRom, IsFastStack, IsEntered, IsFastAnswered}
use Rattle.two_level_code.specs.{Images.fast_most, Images.joint_memory, Images.IsTwoOf, declared.two.Two.Two}

-- nothing is open to inner requests
abbrev pub is_open_inside : ℕ → Bool
is_open_inside at = false

-- the fast block's own bytes, and the nine of its interrupt's frame, which stand from this SP on; and all others
abbrev pub is_own : ℕ → ℕ → Bool
is_own sp at = is_fast_ram at || (is_fast_rom at || (nat_le sp at && nat_lt at (sp + 9)))

abbrev pub is_foreign : ℕ → ℕ → Bool
is_foreign sp at = not (is_own sp at)

-- all bytes but the fast block's RAM
abbrev pub is_kept : ℕ → Bool
is_kept at = not (is_fast_ram at)

-- What each state of the fast code keeps up to the end of its return. Its step reads what is shown to inner requests,
-- and no foreign byte, and it writes the fast block's RAM alone. The bytes of the ROM are the image's. SP is that with
-- which the code was entered, with room for one interrupt.
pub record IsFastState (image : List ℕ) (flags sp : ℕ) (s : State) : Type 0 where
  pub shown : IsShownStep is_open_inside flags s
  pub reads : AllShown (is_foreign sp) (read_by (step_act flags s.regs s.temps) s.mem)
  pub writes : AllShown is_kept (addresses shown.left.writes)
  pub rom : HasFastRom image s.mem
  pub stack : s.regs.sp ≡ sp
  pub room : IsFastStack sp

-- such a state in which I is 0
pub record IsOpenState (image : List ℕ) (flags sp : ℕ) (s : State) : Type 0 where
  pub state : IsFastState image flags sp s
  pub unmasked : may_interrupt s ≡ true

-- From s, in which the fast code is entered, so many steps lead to t, where its return is done. I is 1 in s and 0 in
-- each state between. The last step is an RTI. Behind it the registers are pulled from the frame, over flags with the
-- X of s, no sums run, none are left where there were none, and the answers stand after those before. Outside the fast
-- block's RAM memory is as it was, and in it outside the answers' bytes and the slots.
pub record IsFastRun (b : Block) (image : List ℕ) (flags : ℕ) (bytes : List ℕ) (before : ℕ → ℕ) (s t : State)
    : Type 0 where
  pub further : ℕ
  pub goes : uninterrupted flags (suc further) s ≡ t
  pub first : IsFastState image flags s.regs.sp s
  pub masked : may_interrupt s ≡ false
  pub each : Before (IsOpenState image flags s.regs.sp) flags further (stepped flags s)
  pub returns : decode_at (uninterrupted flags further s).mem (uninterrupted flags further s).regs.pc ≡ Ok Rti
  pub ccr : Ccr
  pub x : has ccr x_masked ≡ has s.regs.ccr x_masked
  pub regs : t.regs ≡ pulled (record (s.regs) { ccr = ccr }) (bytes_at s.mem (from s.regs.sp 9))
  pub off : IsOff t.temps
  pub free : s.temps ≡ Free → t.temps ≡ Free
  pub answers : HasAnswers fast_map b Byte (λ o. answer Byte b o bytes (before o)) t.mem
  pub fit : AreBytes t.mem
  pub size : length t.mem ≡ length s.mem
  pub kept : (at : ℕ) → is_kept at ≡ true → slice_index t.mem at ≡ slice_index s.mem at
  pub elsewhere : (at : ℕ) → (at < fast_map.outputs) ⊎ (fast_map.outputs + length b.outputs ≤ at)
      → (at < fast_map.slots) ⊎ (fast_map.slots + length (slots_of b) ≤ at)
      → slice_index t.mem at ≡ slice_index s.mem at
  pub instructions : counted flags (suc further) s ≤ fast_most (instruction_bound Byte b)
  pub steps : suc further ≤ fast_most (step_bound Byte b)

-- The whole instructions with which the fast code answers, and its return, are such steps.
abbrev pub FastStepsReturn : Type 0
FastStepsReturn =
    (b : Block) (image : List ℕ) (flags : ℕ) (bytes : List ℕ) (before : ℕ → ℕ) (s u : State) → flags < 2 ^ 8
    → IsEntered b image bytes before s → IsFastAnswered b image flags bytes before s u
    → (t : State) × IsFastRun b image flags bytes before s t

-- So from wherever it is entered the fast code of two blocks has such a run.
abbrev pub FastRunsExist : Type 0
FastRunsExist =
    (slow fast : Block) (two : Two) (flags : ℕ) (bytes : List ℕ) (before : ℕ → ℕ) (s : State) → IsValid slow
    → IsWithinLimits slow → IsValid fast → IsWithinLimits fast → IsTwoOf slow fast two
    → flags < 2 ^ 8 → AreInputBytes fast bytes → IsEntered fast (joint_memory two) bytes before s
    → (t : State) × IsFastRun fast (joint_memory two) flags bytes before s t

-- The outer interrupt in which a fast run runs.
-- Beside the promise.
use Rattle.std.specs.Prelude.{◌≡◌, ℕ, suc, ◌+◌, ◌^◌, ◌<◌, ◌≤◌, true, Option, None, Some, List, length}
use Rattle.fuzzy_meaning.specs.{declared.block.Block.Block, Blocks.IsValid}
use Rattle.rule_layout.specs.Layouts.{IsWithinLimits}
use Rattle.cpu12_isa.specs.{Agreement.Agree, Fits.FitsRegs, Fits.AreBytes}
use Rattle.cpu12_isa.specs.Regions.{stack_start, stack_end, is_hidden, vector_word}
use Rattle.cpu12_parts.specs.{declared.temps.Temps.TheVariants.Free, State.State, Laws.IsOff}
use Rattle.byte_scaling.specs.declared.width.Width.TheVariants.{Byte}
use Rattle.eval_code.specs.{Widths.answer, Firing.AreInputBytes, Evaluation.HasAnswers}
use Rattle.cpu12_emul.specs.{Simulation.OnStackOrNone, Simulation.HasRoom}
use Rattle.run_law.specs.{Forms.Ran, Soundness.Ascend, Soundness.Begins, Soundness.Quiet}
use Rattle.two_level_code.specs.declared.two.Two.{Two}
use Rattle.two_level_code.specs.MemoryMaps.{fast_map, is_fast_ram, is_open_to_fast}
use Rattle.two_level_code.specs.{Images.fast_most, Images.joint_memory, Images.IsTwoOf, Running.HasFastRom}
use Rattle.two_level_code.specs.Running.{IsEntered}
use Rattle.firmware_runs.specs.Facts.{AreNoneOrRunning}
use Rattle.two_level_runs.specs.{Runs.entered, Runs.fast_run, Runs.Outer, Runs.served, Steps.IsFastRun}

-- the fast code stands in memory, and the vector leads to it
pub record HasFastCode (image mem : List ℕ) : Type 0 where
  pub rom : HasFastRom image mem
  pub enters : vector_word mem ≡ fast_map.code

-- An outer interrupt may enter the fast code from here, after these answers: no sums run, and below SP there is room
-- for its own frame and for one of an inner interrupt.
pub record CanEnter (b : Block) (image : List ℕ) (before : ℕ → ℕ) (v : State) : Type 0 where
  pub off : IsOff v.temps
  pub size : length v.mem ≡ 65536
  pub bytes : AreBytes v.mem
  pub fits : FitsRegs v.regs
  pub low : stack_start + 24 ≤ v.regs.sp
  pub high : v.regs.sp ≤ stack_end
  pub code : HasFastCode image v.mem
  pub outputs : HasAnswers fast_map b Byte before v.mem

-- It enters the fast code.
abbrev pub OuterEnters : Type 0
OuterEnters = (b : Block) (image bytes : List ℕ) (before : ℕ → ℕ) (v : State) → length b.inputs ≤ 8
    → length b.outputs ≤ 8 → AreInputBytes b bytes → CanEnter b image before v
    → IsEntered b image bytes before (entered bytes v)

-- What an interrupt leaves whose fast run is r, from v: the registers, no sums that run, and memory but for the fast
-- block's RAM and the stack below SP, where the answers after those before stand.
pub record IsQuietRun {A B : Type 0} (b : Block) (bytes : List ℕ) (before : ℕ → ℕ) (v : State) (r : Ran A B)
    : Type 0 where
  pub arrived : r.arrived ≡ true
  pub regs : r.state.regs ≡ v.regs
  pub off : IsOff r.state.temps
  pub free : v.temps ≡ Free → r.state.temps ≡ Free
  pub mem : Agree (is_hidden is_fast_ram v.regs.sp) r.state.mem v.mem
  pub bytes_fit : AreBytes r.state.mem
  pub answers : HasAnswers fast_map b Byte (λ o. answer Byte b o bytes (before o)) r.state.mem

-- So is each interrupt with a fast run, whose inner moments do not fall.
abbrev pub OuterIsQuiet : Type 0
OuterIsQuiet =
    (b : Block) (image bytes : List ℕ) (flags most : ℕ) (before : ℕ → ℕ) (inner : List ℕ) (v t : State) → flags < 2 ^ 8
    → length b.inputs ≤ 8 → length b.outputs ≤ 8 → AreInputBytes b bytes → CanEnter b image before v
    → Ascend (λ k. k) 0 inner → (r : IsFastRun b image flags bytes before (entered bytes v) t) → suc r.further ≤ most
    → IsQuietRun b bytes before v (fast_run flags (length b.outputs) most inner (entered bytes v))

-- the run without inner requests from where a sample is given, within so many steps
pub record RunsFast (b : Block) (image : List ℕ) (flags most : ℕ) (before : ℕ → ℕ) (v : State) (bytes : List ℕ)
    : Type 0 where
  pub behind : State
  pub run : IsFastRun b image flags bytes before (entered bytes v) behind
  pub within : suc run.further ≤ most

-- a sample is one of the block, and has a run
abbrev pub IsServable : Block → List ℕ → ℕ → ℕ → (ℕ → ℕ) → State → Option (List ℕ) → Type 0
IsServable b image flags most before v None = Unit {0}
IsServable b image flags most before v (Some bytes) =
    AreInputBytes b bytes × RunsFast b image flags most before v bytes

-- So is each sample of the fast one of two blocks, from where its code can be entered, within its bound.
abbrev pub OuterIsServable : Type 0
OuterIsServable =
    (slow fast : Block) (two : Two) (flags : ℕ) (bytes : List ℕ) (before : ℕ → ℕ) (v : State) → IsValid slow
    → IsWithinLimits slow → IsValid fast → IsWithinLimits fast → IsTwoOf slow fast two → flags < 2 ^ 8
    → AreInputBytes fast bytes → CanEnter fast (joint_memory two) before v
    → IsServable fast (joint_memory two) flags (fast_most two.fast.step_bound) before v (Some bytes)

-- An outer request is quiet beside the slow firmware, from where the fast code can be entered: where the slow sums are
-- none they stay so; where they run they may end as none.
abbrev pub OuterServes : Type 0
OuterServes =
    (b : Block) (image : List ℕ) (flags most : ℕ) (before : ℕ → ℕ) (q : Outer) (v s : State) → flags < 2 ^ 8
    → length b.inputs ≤ 8 → length b.outputs ≤ 8 → CanEnter b image before v
    → IsServable b image flags most before v q.sample → Ascend (λ k. k) 0 q.inner → HasRoom s
    → Begins is_open_to_fast v s → AreNoneOrRunning s.temps
    → Quiet OnStackOrNone is_open_to_fast (served flags (length b.outputs) most q v) v s

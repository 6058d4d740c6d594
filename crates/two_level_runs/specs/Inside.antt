-- The fast code under inner requests, as a sound form.
-- Beside the promise.
use Rattle.std.specs.Prelude.{◌≡◌, ℕ, suc, ◌+◌, ◌^◌, ◌<◌, ◌≤◌, max, List, [], ◌∷◌, length, All}
use Rattle.fuzzy_meaning.specs.declared.block.Block.{Block}
use Rattle.cpu12_isa.specs.{Agreement.WritesAgree, Fits.AreBytes, Regions.stack_start}
use Rattle.cpu12_parts.specs.State.{State}
use Rattle.cpu12_emul.specs.{Simulation.OnStackOnly, Take.FrameSeen}
use Rattle.run_law.specs.{Uninterrupted.taken_at, Following.Follows}
use Rattle.run_law.specs.Soundness.{Sound, WritesAreQuiet, Ascend}
use Rattle.two_level_runs.specs.{Runs.fast_form, Runs.fast_run, Steps.is_open_inside, Steps.IsFastState}
use Rattle.two_level_runs.specs.{Steps.IsFastRun}

-- any moment is good
abbrev pub AnyMoment : ℕ → Type 0
AnyMoment q = Unit {0}

-- after inner requests memory is one of bytes
abbrev pub HoldsBytes : List (ℕ × Unit {0}) → State → Type 0
HoldsBytes done w = AreBytes w.mem

-- an image, flags, a number of outputs, and SP, where this form is sound
pub record Inside : Type 0 where
  pub image : List ℕ
  pub flags : ℕ
  pub outputs : ℕ
  pub sp : ℕ
  pub sound : WritesAgree → WritesAreQuiet
      → Sound OnStackOnly is_open_inside (fast_form flags outputs sp) (IsFastState image flags sp) AnyMoment HoldsBytes

-- no frame stands below the stack's start
abbrev pub AreOnStack : List (ℕ × FrameSeen) → Type 0
AreOnStack [] = Unit {0}
AreOnStack (f ∷ fs) = (let frame : FrameSeen = f.1 in stack_start ≤ frame.sp) × AreOnStack fs

-- each frame, with its bytes, stands below this SP
abbrev pub AreBelow : ℕ → List (ℕ × FrameSeen) → Type 0
AreBelow sp [] = Unit {0}
AreBelow sp (f ∷ fs) = (let frame : FrameSeen = f.1 in frame.sp + length frame.bytes ≤ sp) × AreBelow sp fs

-- A run under inner requests follows the run of n steps without: the same number of steps and instructions, the
-- resumed count and the frames that are read off the states without, the same last state but for the stack below SP,
-- and a memory of bytes. SP is nowhere below the stack's start, no frame stands there, and each stands below the SP
-- with which it was entered. An inner request is taken at its moment, or at boundary 1 where this is 0.
pub record FollowsInside (flags outputs most : ℕ) (inner : List ℕ) (n : ℕ) (s : State) : Type 0 where
  pub follows : Follows OnStackOnly is_open_inside (fast_form flags outputs s.regs.sp) HoldsBytes [] 0 n n inner s
      (fast_run flags outputs most inner s)
  pub low : All (λ w. stack_start ≤ w.regs.sp) (fast_run flags outputs most inner s).states
  pub stack : AreOnStack (fast_run flags outputs most inner s).frames
  pub below : AreBelow s.regs.sp (fast_run flags outputs most inner s).frames
  pub moments : (q : ℕ) → taken_at flags (λ k. k) n s q ≡ max 1 q

-- So does each run of the fast code whose inner moments do not fall.
abbrev pub FastRunsFollow : Type 0
FastRunsFollow =
    (b : Block) (image : List ℕ) (flags most : ℕ) (bytes : List ℕ) (before : ℕ → ℕ) (inner : List ℕ) (s t : State)
    → flags < 2 ^ 8 → length b.outputs ≤ 8 → AreBytes s.mem → Ascend (λ k. k) 0 inner
    → (r : IsFastRun b image flags bytes before s t) → suc r.further ≤ most
    → FollowsInside flags (length b.outputs) most inner (suc r.further) s

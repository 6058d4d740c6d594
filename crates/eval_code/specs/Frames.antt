-- Frames: what machine code may touch while it runs, and what it leaves.
-- Beside the promise.
use Rattle.std.specs.Prelude.{◌≡◌, ℕ, List, slice_index}
use Rattle.cpu12_isa.specs.{Code.six_from, Plain.interrupt_masks}
use Rattle.cpu12_parts.specs.{State.State, Executions.Execution}
use Rattle.cpu12_parts.specs.declared.temps.Temps.TheVariants.{Free}
use Rattle.cpu12_parts.specs.Touching.{IsIn, IsInOne, Each, IsInstructionOver, IsBetween}

-- where code stands, with what is fetched behind it, and the regions that it reads and writes
pub record Frame : Type 0 where
  pub code : ℕ × ℕ
  pub reads : List (ℕ × ℕ)
  pub writes : List (ℕ × ℕ)

-- a whole instruction in a frame: it stands in the code, touches the frame's regions alone, and leaves SP, I and X
pub record IsStepIn (f : Frame) (flags d : ℕ) (s t : State) : Type 0 where
  pub between : IsBetween s
  pub code : Each (IsIn f.code) (six_from s.regs.pc)
  pub instruction : IsInstructionOver (IsInOne f.reads) (IsInOne f.writes) flags d s t
  pub stack : t.regs.sp ≡ s.regs.sp
  pub masks : interrupt_masks t.regs.ccr ≡ interrupt_masks s.regs.ccr

-- such instructions one after another
abbrev pub IsRunIn : Frame → ℕ → List ℕ → State → State → Type 0
IsRunIn f flags = Execution (IsStepIn f flags)

-- SP, I, X and each byte that is not the frame's to write are as they were, and no sums run where none ran
pub record IsLeft (f : Frame) (s t : State) : Type 0 where
  pub stack : t.regs.sp ≡ s.regs.sp
  pub masks : interrupt_masks t.regs.ccr ≡ interrupt_masks s.regs.ccr
  pub bytes : (at : ℕ) → (IsInOne f.writes at → ⊥) → slice_index t.mem at ≡ slice_index s.mem at
  pub free : s.temps ≡ Free → t.temps ≡ Free

-- So a run leaves them.
abbrev pub FramesLeave : Type 0
FramesLeave = (f : Frame) (flags : ℕ) (ds : List ℕ) (s t : State) → IsRunIn f flags ds s t → IsLeft f s t

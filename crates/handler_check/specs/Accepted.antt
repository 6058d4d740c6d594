-- Handlers that are accepted.
-- Beside the promise.
use Rattle.std.specs.Prelude.{◌≡◌, ℕ, suc, ◌≤◌, true, List}
use Rattle.cpu12_isa.specs.{declared.instr.Instr.Instr, declared.instr.Instr.TheVariants.Rti, Code.FitCode}
use Rattle.cpu12_isa.specs.Regions.{is_free}
use Rattle.handler_check.specs.Cut.{code_end, code_limit, IsAt}
use Rattle.handler_check.specs.Paths.{is_allowed, IsIn, written_by, GoesForward, FitsHeight, Path}

-- what an instruction may be at a height
pub record May (i : Instr) (h : ℕ) : Type 0 where
  pub allowed : is_allowed i ≡ true
  pub free : (at : ℕ) → IsIn (written_by i) at → is_free at ≡ true
  pub forward : GoesForward i
  pub height : FitsHeight i h

-- Code that is accepted, and the greatest number of instructions on a path to its end: each instruction is reached,
-- with one height, and may stand there; wherever a path leads an instruction stands; and some path is the longest.
pub record IsAccepted (is : List Instr) (instrs : ℕ) : Type 0 where
  pub fits : FitCode is
  pub ends : code_end is ≤ code_limit
  pub reached : (at : ℕ) (i : Instr) → IsAt is at i → (n : ℕ) × (h : ℕ) × Path is n at h
  pub one_height : (at m n g h : ℕ) → Path is m at g → Path is n at h → g ≡ h
  pub stands : (n at h : ℕ) → Path is n at h → (i : Instr) × IsAt is at i
  pub may : (n at h : ℕ) (i : Instr) → Path is n at h → IsAt is at i → May i h
  pub most : (n at h : ℕ) → Path is n at h → IsAt is at Rti → suc n ≤ instrs
  pub longest : (n : ℕ) × (at : ℕ) × (h : ℕ) × (Path is n at h × IsAt is at Rti × (suc n ≡ instrs))

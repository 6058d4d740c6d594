-- A whole instruction by the addresses that it reads and writes.
-- Beside the promise.
use Rattle.std.specs.Prelude.{◌≡◌, ℕ, ◌+◌, ◌<◌, ◌≤◌, ◌⊎◌, List, [], ◌∷◌, length}
use Rattle.cpu12_isa.specs.declared.{instr.Instr.Instr, instr.Instr.TheVariants.Rev, instr.Instr.TheVariants.Revw}
use Rattle.cpu12_isa.specs.{Act.read_by, Fits.FitsRegs, Fits.AreBytes, Meaning.effect, Meaning.plain_act}
use Rattle.cpu12_parts.specs.{State.State, Averages.wav_read, Laws.addresses, Laws.IsOff}
use Rattle.cpu12_parts.specs.Rules.{Rule, RuleOperands, rev_operands, revw_operands, rules_read, rules_written}
use Rattle.cpu12_parts.specs.Whole.{IsPlainStep, IsRulesStep, IsAverageStep}

-- an address is one of a region's, which is where it begins and how many bytes it has; and of one of some regions
abbrev pub IsIn : ℕ × ℕ → ℕ → Type 0
IsIn r at = (r.0 ≤ at) × (at < r.0 + r.1)

abbrev pub IsInOne : List (ℕ × ℕ) → ℕ → Type 0
IsInOne [] at = ⊥
IsInOne (r ∷ rs) at = IsIn r at ⊎ IsInOne rs at

-- a predicate of each of these addresses
abbrev pub Each : (ℕ → Type 0) → List ℕ → Type 0
Each P [] = Unit {0}
Each P (at ∷ ats) = P at × Each P ats

-- a plain instruction, REV or REVW, and WAV, that read at addresses of one kind and write at those of another
pub record IsPlainOver (R W : ℕ → Type 0) (flags : ℕ) (i : Instr) (s t : State) : Type 0 where
  pub step : IsPlainStep flags i s t
  pub reads : Each R (read_by (plain_act flags i s.regs) s.mem)
  pub writes : Each W (addresses (effect flags i s.regs s.mem).writes)

pub record IsRulesOver (R W : ℕ → Type 0) (i : Instr) (f : RuleOperands) (flags d : ℕ) (p : Rule) (ps : List Rule)
    (s t : State) : Type 0 where
  pub step : IsRulesStep i f flags d p ps s t
  pub reads : Each R (rules_read f s.regs p ps)
  pub writes : Each W (rules_written f p ps)

pub record IsAverageOver (R : ℕ → Type 0) (flags d : ℕ) (s t : State) : Type 0 where
  pub step : IsAverageStep flags d s t
  pub some : 1 ≤ s.regs.b
  pub reads : Each R (wav_read s.regs)

abbrev pub IsInstructionOver : (ℕ → Type 0) → (ℕ → Type 0) → ℕ → ℕ → State → State → Type 0
IsInstructionOver R W flags d s t =
    ((i : Instr) × (IsPlainOver R W flags i s t × (d ≡ 0)))
    ⊎ (((p : Rule) × (ps : List Rule) × IsRulesOver R W Rev (rev_operands s.regs.y) flags d p ps s t)
    ⊎ (((p : Rule) × (ps : List Rule) × IsRulesOver R W Revw revw_operands flags d p ps s t)
    ⊎ IsAverageOver R flags d s t))

-- a state between whole instructions: no sums run, and its memory and registers have their sizes
pub record IsBetween (s : State) : Type 0 where
  pub off : IsOff s.temps
  pub size : length s.mem ≡ 65536
  pub bytes : AreBytes s.mem
  pub fits : FitsRegs s.regs

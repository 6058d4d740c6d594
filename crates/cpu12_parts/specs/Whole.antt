-- One whole instruction without an interrupt.
-- Beside the promise.
use Rattle.std.specs.Prelude.{◌≡◌, ◌≢◌, ℕ, zero, suc, ◌-◌, ◌⊎◌, true, Ok, List, length}
use Rattle.cpu12_isa.specs.declared.instr.Instr.{Instr}
use Rattle.cpu12_isa.specs.declared.instr.Instr.TheVariants.{Rev, Revw, Wav}
use Rattle.cpu12_isa.specs.{Act.write_all, Code.decode_at, Meaning.effect, Meaning.is_plain}
use Rattle.cpu12_parts.specs.{State.State, Averages.wav_whole, Laws.IsOff}
use Rattle.cpu12_parts.specs.Rules.{Rule, RuleOperands, rev_operands, revw_operands, elements_of, AreReady, rules_whole}

-- the state after a plain instruction
abbrev pub after_plain : ℕ → Instr → State → State
after_plain flags i s =
    let e = effect flags i s.regs s.mem in
    record { regs = e.regs; temps = s.temps; mem = write_all e.writes s.mem }

-- a plain instruction stands at PC, and leads from s to t
pub record IsPlainStep (flags : ℕ) (i : Instr) (s t : State) : Type 0 where
  pub decoded : decode_at s.mem s.regs.pc ≡ Ok i
  pub plain : is_plain i ≡ true
  pub after : t ≡ after_plain flags i s

-- n plain instructions lead from s to t, and none of them stands at this address
abbrev pub PlainExecution : ℕ → ℕ → ℕ → State → State → Type 0
PlainExecution flags at zero s t = s ≡ t
PlainExecution flags at (suc n) s t =
    (u : State) × ((s.regs.pc ≢ at) × ((i : Instr) × IsPlainStep flags i s u) × PlainExecution flags at n u t)

-- REV or REVW stands at PC with its rules, and leads from s to t by d parts more than one
pub record IsRulesStep (i : Instr) (f : RuleOperands) (flags d : ℕ) (p : Rule) (ps : List Rule) (s t : State)
    : Type 0 where
  pub decoded : decode_at s.mem s.regs.pc ≡ Ok i
  pub ready : AreReady f s.regs s.mem p ps
  pub parts : length (elements_of f p ps) ≡ suc d
  pub after : t ≡ rules_whole f flags s.regs s.temps s.mem p ps

-- WAV stands at PC, and leads from s to t by d parts more than one
pub record IsAverageStep (flags d : ℕ) (s t : State) : Type 0 where
  pub decoded : decode_at s.mem s.regs.pc ≡ Ok Wav
  pub off : IsOff s.temps
  pub parts : d ≡ s.regs.b - 1
  pub after : t ≡ wav_whole flags s.regs s.mem

-- the instruction at PC leads from s to t, by d parts more than one
abbrev pub IsWholeStep : ℕ → ℕ → State → State → Type 0
IsWholeStep flags d s t =
    ((i : Instr) × (IsPlainStep flags i s t × (d ≡ 0)))
    ⊎ (((p : Rule) × (ps : List Rule) × IsRulesStep Rev (rev_operands s.regs.y) flags d p ps s t)
    ⊎ (((p : Rule) × (ps : List Rule) × IsRulesStep Revw revw_operands flags d p ps s t)
    ⊎ IsAverageStep flags d s t))

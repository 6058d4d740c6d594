-- What is known wherever an interrupt may come to a firmware, whose handler may change the open bytes.
-- Beside the promise.
use Rattle.std.specs.Prelude.{◌≡◌, ◌≢◌, ℕ, ◌-◌, ◌≤◌, ◌<◌, ◌⊎◌, min, ◌==◌, ◌&&◌, Bool, false, List, length}
use Rattle.std.specs.Prelude.{slice_index}
use Rattle.cpu12_isa.specs.declared.{instr.Instr.Instr, instr.Instr.TheVariants.Rev, instr.Instr.TheVariants.Revw}
use Rattle.cpu12_isa.specs.{Act.read_by, Agreement.AgreeFrom, Agreement.AllShown, Agreement.Uncovers, Code.six_from}
use Rattle.cpu12_isa.specs.{Fits.FitsRegs, Fits.AreBytes, Flags.has, Flags.interrupts_masked}
use Rattle.cpu12_isa.specs.{Meaning.effect, Meaning.plain_act, Memory.plus, Regions.is_hidden, Regions.stack_end}
use Rattle.cpu12_parts.specs.{declared.temps.Temps.TheVariants.Free, State.State, Averages.wav_read, Laws.addresses}
use Rattle.cpu12_parts.specs.{Touching.Each, Whole.IsPlainStep, Whole.IsRulesStep, Whole.IsAverageStep}
use Rattle.cpu12_parts.specs.Rules.{Rule, RuleOperands, rev_operands, revw_operands, rules_read, rules_written}
use Rattle.cpu12_parts.specs.Rules.{AreApart}
use Rattle.eval_code.specs.declared.memory_map.MemoryMap.{MemoryMap}

-- PC is where the code waits, and READY is 0
abbrev pub is_idle : MemoryMap → State → Bool
is_idle l s = (s.regs.pc == l.wait) && (slice_index s.mem l.sample_flag == 0)

-- SP is at the stack's end, or two bytes lower while a call is open
abbrev pub IsStackOfOneCall : ℕ → Type 0
IsStackOfOneCall sp = (sp ≡ stack_end - 2) ⊎ (sp ≡ stack_end)

-- what each state keeps in which I is set or not. Its memory is that of the image from $2000 on.
pub record IsSteady (open_to : ℕ → Bool) (masked : Bool) (image : List ℕ) (s : State) : Type 0 where
  pub temps : s.temps ≡ Free
  pub size : length s.mem ≡ 65536
  pub bytes : AreBytes s.mem
  pub fits : FitsRegs s.regs
  pub stack : IsStackOfOneCall s.regs.sp
  pub mask : has s.regs.ccr interrupts_masked ≡ masked
  pub same : AgreeFrom stack_end image s.mem
  pub code : AllShown (is_hidden open_to s.regs.sp) (six_from s.regs.pc)

-- an interrupt may come where I is 0
abbrev pub IsInterruptible : (ℕ → Bool) → List ℕ → State → Type 0
IsInterruptible open_to = IsSteady open_to false

-- A plain instruction: what it reads is shown, what it writes is shown before and after it, and what is hidden no
-- more after it is written.
pub record IsShownPlain (open_to : ℕ → Bool) (flags : ℕ) (i : Instr) (s t : State) : Type 0 where
  pub step : IsPlainStep flags i s t
  pub reads : AllShown (is_hidden open_to s.regs.sp) (read_by (plain_act flags i s.regs) s.mem)
  pub writes : AllShown (is_hidden open_to (min s.regs.sp t.regs.sp)) (addresses (effect flags i s.regs s.mem).writes)
  pub uncovers : Uncovers (is_hidden open_to s.regs.sp)
      (effect flags i s.regs s.mem).writes (is_hidden open_to t.regs.sp)

-- REV or REVW: what it reads and writes is shown, it writes below the image alone, and not itself, and between its
-- parts PC is not where the code waits
pub record IsShownRules (open_to : ℕ → Bool) (wait : ℕ) (i : Instr) (f : RuleOperands) (flags d : ℕ) (p : Rule)
    (ps : List Rule) (s t : State) : Type 0 where
  pub step : IsRulesStep i f flags d p ps s t
  pub reads : AllShown (is_hidden open_to s.regs.sp) (rules_read f s.regs p ps)
  pub writes : AllShown (is_hidden open_to s.regs.sp) (rules_written f p ps)
  pub below : Each (λ at. at < stack_end) (rules_written f p ps)
  pub itself : AreApart (rules_written f p ps) (six_from s.regs.pc)
  pub away : s.regs.pc ≢ wait

-- WAV: it has a pair at least, what it reads is shown, and where it goes on after an interrupt is not where the code
-- waits
pub record IsShownAverage (open_to : ℕ → Bool) (wait flags d : ℕ) (s t : State) : Type 0 where
  pub step : IsAverageStep flags d s t
  pub some : 1 ≤ s.regs.b
  pub reads : AllShown (is_hidden open_to s.regs.sp) (wav_read s.regs)
  pub away : plus s.regs.pc 1 ≢ wait

abbrev pub IsShownInstruction : (ℕ → Bool) → ℕ → ℕ → ℕ → State → State → Type 0
IsShownInstruction open_to wait flags d s t =
    ((i : Instr) × (IsShownPlain open_to flags i s t × (d ≡ 0)))
    ⊎ (((p : Rule) × (ps : List Rule) × IsShownRules open_to wait Rev (rev_operands s.regs.y) flags d p ps s t)
    ⊎ (((p : Rule) × (ps : List Rule) × IsShownRules open_to wait Revw revw_operands flags d p ps s t)
    ⊎ IsShownAverage open_to wait flags d s t))

-- a whole instruction on a sample, from a state that does not wait
pub record IsBusyStep (open_to : ℕ → Bool) (wait ready : ℕ) (image : List ℕ) (flags d : ℕ) (s t : State) : Type 0 where
  pub busy : ((s.regs.pc == wait) && (slice_index s.mem ready == 0)) ≡ false
  pub interruptible : IsInterruptible open_to image s
  pub instruction : IsShownInstruction open_to wait flags d s t

abbrev pub IsInterruptibleStep : (ℕ → Bool) → MemoryMap → List ℕ → ℕ → ℕ → State → State → Type 0
IsInterruptibleStep open_to l = IsBusyStep open_to l.wait l.sample_flag

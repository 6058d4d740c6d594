-- What an instruction in parts owes, for every kind of it.
-- Beside the promise.
use Rattle.std.specs.Prelude.{◌≡◌, ℕ, suc, ◌-◌, ◌^◌, ◌<◌, Bool, List, length}
use Rattle.cpu12_isa.specs.Agreement.{AllShown}
use Rattle.cpu12_parts.specs.{State.State, Averages.wav_read, Averages.wav_whole}
use Rattle.cpu12_parts.specs.Parts.{Kind, cut_run, EndsWith}
use Rattle.cpu12_parts.specs.Rules.{Rule, RuleOperands, rev_operands, revw_operands, elements_of, rules_read}
use Rattle.cpu12_parts.specs.Rules.{rules_written, AreReady}
use Rattle.cpu12_parts.specs.Rules.{rules_whole}
use Rattle.cpu12_parts.specs.Laws.{PartsTo, below, IsLike, IsOff}

-- A whole instruction: with a byte for the open flags it leads from one state to another by so many parts more than
-- one, and reads and writes at these addresses.
abbrev pub Whole : Type 1
Whole = ℕ → ℕ → List ℕ → List ℕ → State → State → Type 0

-- REV and REVW, whose rules stand in memory
pub record WholeRules (f : State → RuleOperands) (flags d : ℕ) (reads writes : List ℕ) (s t : State) : Type 0 where
  pub rule : Rule
  pub rules : List Rule
  pub flags_fit : flags < 2 ^ 8
  pub ccr_fits : s.regs.ccr.0 < 2 ^ 8
  pub ready : AreReady (f s) s.regs s.mem rule rules
  pub parts : length (elements_of (f s) rule rules) ≡ suc d
  pub reads_are : reads ≡ rules_read (f s) s.regs rule rules
  pub writes_are : writes ≡ rules_written (f s) rule rules
  pub leads : t ≡ rules_whole (f s) flags s.regs s.temps s.mem rule rules

abbrev pub whole_rev : Whole
whole_rev = WholeRules (λ s. rev_operands s.regs.y)

abbrev pub whole_revw : Whole
whole_revw = WholeRules (λ s. revw_operands)

-- WAV, which writes nothing
pub record WholeAverage (flags d : ℕ) (reads writes : List ℕ) (s t : State) : Type 0 where
  pub flags_fit : flags < 2 ^ 8
  pub ccr_fits : s.regs.ccr.0 < 2 ^ 8
  pub off : IsOff s.temps
  pub parts : d ≡ s.regs.b - 1
  pub reads_are : reads ≡ wav_read s.regs
  pub leads : t ≡ wav_whole flags s.regs s.mem

-- The parts make the whole instruction, and each of them touches only what it does.
abbrev pub MakesWhole : Kind → Whole → Type 0
MakesWhole k W = (flags d : ℕ) (reads writes : List ℕ) (s t : State) → W flags d reads writes s t
    → (unread unwritten : ℕ → Bool) → AllShown unread reads → AllShown unwritten writes
    → PartsTo k flags unread unwritten d s t

-- Over all cuts by suspend and then resume the parts come to the whole instruction's state but for the six bytes
-- below SP, where none of these is read.
abbrev pub OverCuts : Kind → Whole → Type 0
OverCuts k W = (flags d : ℕ) (reads writes : List ℕ) (s t : State) (cs : List Bool) → W flags d reads writes s t
    → length s.mem ≡ 65536 → s.regs.sp < 2 ^ 16 → AllShown (below 6 s.regs.sp) reads → length cs ≡ d
    → EndsWith k flags cs s × IsLike (cut_run k flags cs s) t

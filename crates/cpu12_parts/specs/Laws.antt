-- The laws of instructions in parts.
-- Beside the promise.
use Rattle.std.specs.Prelude.{◌≡◌, ℕ, zero, suc, ◌+◌, ◌-◌, ◌%◌, ◌^◌, ◌<◌, ◌⊎◌, Bool, true, nat_lt, List, []}
use Rattle.std.specs.Prelude.{length}
use Rattle.cpu12_isa.specs.declared.instr.Regs.{Regs}
use Rattle.cpu12_isa.specs.{Act.outcome, Act.read_by, Agreement.Agree, Agreement.AllShown, Agreement.IsWritten}
pub use Rattle.cpu12_isa.specs.Agreement.{addresses}
use Rattle.cpu12_parts.specs.declared.temps.Temps.{Temps}
use Rattle.cpu12_parts.specs.declared.temps.Temps.TheVariants.{Free, Running, OnStack}
use Rattle.cpu12_parts.specs.declared.temps.PartEnd.TheVariants.{More, Done}
use Rattle.cpu12_parts.specs.Parts.{Kind, rev, revw, wav, part_of, after_part, suspended, resumed, cut_run, EndsWith}
use Rattle.cpu12_parts.specs.Rules.{Rule, RuleOperands, rev_operands, revw_operands, elements_of, rules_read}
use Rattle.cpu12_parts.specs.Rules.{rules_whole, rules_written, AreReady}
use Rattle.cpu12_parts.specs.{State.State, Averages.wav_read, Averages.wav_whole}

-- the next part reads at no address of one set, and writes at none of another
abbrev pub Touches : Kind → ℕ → (ℕ → Bool) → (ℕ → Bool) → State → Type 0
Touches k flags unread unwritten s =
    AllShown unread (read_by (k.act flags s.regs s.temps) s.mem)
    × AllShown unwritten (addresses (part_of k flags s).writes)

-- one part and d further ones, the last of which ends the instruction, lead from s to t and touch no address of these
-- sets
abbrev pub PartsTo : Kind → ℕ → (ℕ → Bool) → (ℕ → Bool) → ℕ → State → State → Type 0
PartsTo k flags unread unwritten zero s t =
    Touches k flags unread unwritten s × ((part_of k flags s).end ≡ Done) × (t ≡ after_part k flags s)
PartsTo k flags unread unwritten (suc d) s t =
    Touches k flags unread unwritten s × ((part_of k flags s).end ≡ More)
    × PartsTo k flags unread unwritten d (after_part k flags s) t

-- the n addresses below an address
abbrev pub below : ℕ → ℕ → ℕ → Bool
below n sp at = nat_lt ((sp + (65535 - at)) % 2 ^ 16) n

-- a state is another but for the six bytes below SP
pub record IsLike (s t : State) : Type 0 where
  pub regs : s.regs ≡ t.regs
  pub temps : s.temps ≡ t.temps
  pub mem : Agree (below 6 t.regs.sp) s.mem t.mem

-- sums that run, as words of their sizes
abbrev pub AreKept : Temps → Type 0
AreKept Free = ⊥
AreKept OnStack = ⊥
AreKept (Running p w) = (p < 2 ^ 32) × (w < 2 ^ 16)

abbrev pub Any : Temps → Type 0
Any t = Unit {0}

-- suspend and then resume leave all as it was, but for the six bytes below SP
abbrev pub GoesOn : Kind → (Temps → Type 0) → Type 0
GoesOn k kept =
    (s : State) → length s.mem ≡ 65536 → s.regs.sp < 2 ^ 16 → kept s.temps → IsLike (resumed k (suspended k s)) s

-- suspend writes only below SP as it was, and resume writes nothing
abbrev pub WritesBelow : Kind → Type 0
WritesBelow k = (s : State) → s.regs.sp < 2 ^ 16
    → ((at : ℕ) → IsWritten (outcome (k.push s.regs s.temps) s.mem).writes at → below 6 s.regs.sp at ≡ true)
    × ((outcome (k.pull s.regs s.temps) s.mem).writes ≡ [])

-- suspend and resume change nothing
abbrev pub KeepsNothing : Kind → Type 0
KeepsNothing k = (s : State) → (suspended k s ≡ s) × (resumed k s ≡ s)

-- what a part keeps
pub record IsSteady (k : Kind) (kept : Temps → Type 0) : Type 0 where
  pub stack : (flags : ℕ) (s : State) → (part_of k flags s).regs.sp ≡ s.regs.sp
  pub temps : (flags : ℕ) (s : State) → (part_of k flags s).end ≡ More → kept (part_of k flags s).temps

-- Cuts at any boundaries, by suspend and then resume: the parts come to the same end, but for the six bytes below SP,
-- if no byte that is read is one of them.
abbrev pub CutsChangeNothing : Kind → Type 0
CutsChangeNothing k =
    (flags : ℕ) (unwritten : ℕ → Bool) (d : ℕ) (s t : State) → length s.mem ≡ 65536 → s.regs.sp < 2 ^ 16
    → PartsTo k flags (below 6 s.regs.sp) unwritten d s t → (cs : List Bool) → length cs ≡ d
    → EndsWith k flags cs s × IsLike (cut_run k flags cs s) t

abbrev pub state_of : Regs → Temps → List ℕ → State
state_of r t mem = record { regs = r; temps = t; mem = mem }

-- the parts of an instruction whose rules lie so in memory make the whole of it: as many as its list has elements, and
-- they touch only what it does
abbrev pub RulesAreWhole : Kind → (State → RuleOperands) → Type 0
RulesAreWhole k f =
    (flags : ℕ) (r : Regs) (t : Temps) (mem : List ℕ) (p : Rule) (ps : List Rule) (d : ℕ) (unread unwritten : ℕ → Bool)
    → let o = f (state_of r t mem) in
    flags < 2 ^ 8 → r.ccr.0 < 2 ^ 8 → AreReady o r mem p ps → length (elements_of o p ps) ≡ suc d
    → AllShown unread (rules_read o r p ps) → AllShown unwritten (rules_written o p ps)
    → PartsTo k flags unread unwritten d (state_of r t mem) (rules_whole o flags r t mem p ps)

-- REV's do, and REVW's
abbrev pub RevIsWhole : Type 0
RevIsWhole = RulesAreWhole rev (λ s. rev_operands s.regs.y)

abbrev pub RevwIsWhole : Type 0
RevwIsWhole = RulesAreWhole revw (λ s. revw_operands)

-- the sums do not run
abbrev pub IsOff : Temps → Type 0
IsOff t = (t ≡ Free) ⊎ (t ≡ OnStack)

-- So do WAV's, one for each pair and one where there is none.
abbrev pub WavIsWhole : Type 0
WavIsWhole =
    (flags : ℕ) (r : Regs) (t : Temps) (mem : List ℕ) (unread unwritten : ℕ → Bool) → flags < 2 ^ 8 → r.ccr.0 < 2 ^ 8
    → IsOff t
    → AllShown unread (wav_read r)
    → PartsTo wav flags unread unwritten (r.b - 1) (state_of r t mem) (wav_whole flags r mem)

-- Over all cuts: from where the whole instruction is defined, and no byte that it reads is one of the six below SP, the
-- parts end after as many as there are elements, wherever they are cut, and in the whole instruction's state but for
-- those six bytes.
abbrev pub RulesOverCuts : Kind → (State → RuleOperands) → Type 0
RulesOverCuts k f =
    (flags : ℕ) (r : Regs) (t : Temps) (mem : List ℕ) (p : Rule) (ps : List Rule) (cs : List Bool)
    → let o = f (state_of r t mem) in
    flags < 2 ^ 8 → r.ccr.0 < 2 ^ 8 → length mem ≡ 65536 → r.sp < 2 ^ 16 → AreReady o r mem p ps
    → AllShown (below 6 r.sp) (rules_read o r p ps) → length (elements_of o p ps) ≡ suc (length cs)
    → EndsWith k flags cs (state_of r t mem)
    × IsLike (cut_run k flags cs (state_of r t mem)) (rules_whole o flags r t mem p ps)

abbrev pub RevOverCuts : Type 0
RevOverCuts = RulesOverCuts rev (λ s. rev_operands s.regs.y)

abbrev pub RevwOverCuts : Type 0
RevwOverCuts = RulesOverCuts revw (λ s. revw_operands)

abbrev pub WavOverCuts : Type 0
WavOverCuts =
    (flags : ℕ) (r : Regs) (t : Temps) (mem : List ℕ) (cs : List Bool) → flags < 2 ^ 8 → r.ccr.0 < 2 ^ 8
    → length mem ≡ 65536 → r.sp < 2 ^ 16 → IsOff t
    → AllShown (below 6 r.sp) (wav_read r) → length cs ≡ r.b - 1
    → EndsWith wav flags cs (state_of r t mem)
    × IsLike (cut_run wav flags cs (state_of r t mem)) (wav_whole flags r mem)

-- When a state of a run under interrupts simulates the state of the run without.
-- Beside the promise.
use Rattle.std.specs.Prelude.{◌≡◌, ℕ, ◌+◌, ◌^◌, ◌<◌, ◌≤◌, ◌⊎◌, Bool, true, false, Ok, List, [], ◌∷◌, ◌++◌, length}
use Rattle.std.specs.Prelude.{slice_index}
use Rattle.cpu12_isa.specs.declared.{instr.Regs.Regs, instr.Write.Write, instr.Instr.Instr}
use Rattle.cpu12_isa.specs.Regions.{stack_start, stack_end, is_hidden, LeavesStack}
use Rattle.cpu12_isa.specs.{Act.outcome, Act.read_by, Act.write_all, Memory.plus, Memory.from, Memory.bytes_at}
use Rattle.cpu12_isa.specs.{Code.decode_at, Code.six_from, Meaning.effect, Meaning.is_plain, Meaning.plain_act}
use Rattle.cpu12_isa.specs.{Agreement.Agree, Agreement.AllShown, Agreement.Uncovers, Fits.FitsRegs}
use Rattle.cpu12_parts.specs.{declared.temps.Temps.Temps, State.State, State.Outcome, Laws.IsOff}
use Rattle.cpu12_parts.specs.declared.temps.Temps.TheVariants.{Free, Running, OnStack}
use Rattle.cpu12_parts.specs.Parts.{sum_bytes, Kind, part_of, wav}
use Rattle.cpu12_isa.specs.Interrupts.{FrameComesBack, HidesMoreAbove, ShowsFromSp, HidesPushed}
use Rattle.cpu12_parts.specs.Inside.{PushesRunning, PushesNone}
use Rattle.cpu12_emul.specs.declared.ends.Stepped.TheVariants.{Plain}
use Rattle.cpu12_emul.specs.Step.{Left, Next, kind_of, step_act, next_of}
use Rattle.cpu12_emul.specs.Take.{framed, taken, frame_of, frame_on}

-- all writes are to open bytes
abbrev pub AreOpen : (ℕ → Bool) → List Write → Type 0
AreOpen open_to [] = Unit {0}
AreOpen open_to (w ∷ ws) = (open_to w.at ≡ true) × AreOpen open_to ws

-- the same registers and sums, and the same bytes where they are not hidden
pub record Same (open_to : ℕ → Bool) (w s : State) : Type 0 where
  pub regs : w.regs ≡ s.regs
  pub temps : w.temps ≡ s.temps
  pub mem : Agree (is_hidden open_to s.regs.sp) w.mem s.mem

-- How sums that an interrupt pushed may be marked: as on the stack alone, or, where handlers run WAV, as none too.
pub data Marks : Type 0 where
  OnStackOnly : Marks
  OnStackOrNone : Marks

abbrev pub AreMarked : Marks → Temps → Type 0
AreMarked OnStackOnly t = t ≡ OnStack
AreMarked OnStackOrNone t = IsOff t

-- s's sums run; w's lie on the stack, six bytes below s's SP, and are marked so
pub record Parked (marks : Marks) (open_to : ℕ → Bool) (w s : State) : Type 0 where
  pub product : ℕ
  pub weight : ℕ
  pub running : s.temps ≡ Running product weight
  pub temps : AreMarked marks w.temps
  pub regs : w.regs ≡ record (s.regs) { sp = plus s.regs.sp 65530 }
  pub sums : bytes_at w.mem (from (plus s.regs.sp 65530) 6) ≡ sum_bytes product weight
  pub mem : Agree (is_hidden open_to s.regs.sp) w.mem s.mem

-- The state w of a run under interrupts simulates the state s of the run without: it is the same, or an interrupt has
-- put the sums that run in s on the stack.
abbrev pub Simulates : Marks → (ℕ → Bool) → State → State → Type 0
Simulates marks open_to w s = Same open_to w s ⊎ Parked marks open_to w s

-- where sums run they fit, and PC is at wavr's byte
abbrev pub AreSumsReady : (ℕ → Bool) → State → Temps → Type 0
AreSumsReady open_to t Free = Unit {0}
AreSumsReady open_to t OnStack = Unit {0}
AreSumsReady open_to t (Running p w) =
    (p < 2 ^ 32) × (w < 2 ^ 16) × (slice_index t.mem t.regs.pc ≡ 60) × (is_hidden open_to t.regs.sp t.regs.pc ≡ false)

-- what an interrupt needs of the state that it comes in: 15 bytes of the stack below SP
pub record HasRoom (t : State) : Type 0 where
  pub size : length t.mem ≡ 65536
  pub fits : FitsRegs t.regs
  pub low : stack_start + 15 ≤ t.regs.sp
  pub high : t.regs.sp ≤ stack_end

-- a step that reads only what is shown, and writes what it uncovers of the stack
pub record IsShownStep (open_to : ℕ → Bool) (flags : ℕ) (t : State) : Type 0 where
  pub left : Left
  pub goes : outcome (step_act flags t.regs t.temps) t.mem ≡ Ok left
  pub reads : AllShown (is_hidden open_to t.regs.sp) (read_by (step_act flags t.regs t.temps) t.mem)
  pub covers : Uncovers (is_hidden open_to t.regs.sp) left.writes (is_hidden open_to left.regs.sp)
  pub room : HasRoom t
  pub sums : AreSumsReady open_to t t.temps

-- both states step alike, and then are the same
pub record StepsAlike (open_to : ℕ → Bool) (flags : ℕ) (s t : State) : Type 0 where
  pub next : Next
  pub goal : Next
  pub goes : next_of flags s ≡ Ok next
  pub uninterrupted : next_of flags t ≡ Ok goal
  pub kind : next.kind ≡ goal.kind
  pub same : Same open_to next.state goal.state

-- Two states that agree outside hidden bytes step alike, where what is read is shown; less may be hidden after the
-- step, if it writes what is hidden no more.
abbrev pub StepAgrees : Type 0
StepAgrees = (flags : ℕ) (r : Regs) (t : Temps) (m n : List ℕ) (l : Left) (hidden later : ℕ → Bool) → Agree hidden m n
    → AllShown hidden (read_by (step_act flags r t) n) → outcome (step_act flags r t) n ≡ Ok l
    → Uncovers hidden l.writes later
    → (outcome (step_act flags r t) m ≡ Ok l) × Agree later (write_all l.writes m) (write_all l.writes n)

-- A step with the sums on the stack is that with the sums running.
abbrev pub WavrGoesOn : Type 0
WavrGoesOn =
    (flags : ℕ) (r : Regs) (t : Temps) (p w : ℕ) (m : List ℕ) → IsOff t → r.sp < 2 ^ 16 → p < 2 ^ 32 → w < 2 ^ 16
    → slice_index m r.pc ≡ 60
    → bytes_at m (from (plus r.sp 65530) 6) ≡ sum_bytes p w
    → outcome (step_act flags (record r { sp = plus r.sp 65530 }) t) m ≡ outcome (step_act flags r (Running p w)) m

-- A step keeps the simulation, however pushed sums are marked.
abbrev pub StepKeeps : Type 0
StepKeeps =
    (open_to : ℕ → Bool) (flags : ℕ) (s t : State) → Simulates OnStackOrNone open_to s t → IsShownStep open_to flags t
    → StepsAlike open_to flags s t

-- The nine bytes, writes to open bytes, and back change nothing that is shown.
abbrev pub TakesQuietly : Type 0
TakesQuietly =
    (open_to : ℕ → Bool) (ws : List Write) (s : State) → LeavesStack open_to → AreOpen open_to ws → length s.mem ≡ 65536
    → FitsRegs s.regs → stack_start + 9 ≤ s.regs.sp → s.regs.sp ≤ stack_end
    → Same open_to (framed ws s) s

-- An interrupt that writes open bytes keeps the simulation, and the marks of sums on the stack.
abbrev pub TakeKeeps : Type 0
TakeKeeps =
    (marks : Marks) (open_to : ℕ → Bool) (ws : List Write) (s t : State) → LeavesStack open_to → AreOpen open_to ws
    → HasRoom t → Simulates marks open_to s t → Simulates marks open_to (taken ws s) t

-- A frame on the stack is the nine bytes of the registers, and the six of the sums where they run.
abbrev pub FrameIsOnStack : Type 0
FrameIsOnStack = (s : State) → length s.mem ≡ 65536 → s.regs.sp < 2 ^ 16 → frame_of s ≡ frame_on true s s.temps

-- the laws of what an interrupt pushes and hides
pub record PushLaws : Type 0 where
  pub frame_comes_back : FrameComesBack
  pub more : HidesMoreAbove
  pub shown : ShowsFromSp
  pub pushed : HidesPushed
  pub running : PushesRunning
  pub none : PushesNone

-- A plain instruction is one step, which reads its six bytes and what it reads itself.
abbrev pub PlainIsStep : Type 0
PlainIsStep = (flags : ℕ) (i : Instr) (s : State) → IsOff s.temps → decode_at s.mem s.regs.pc ≡ Ok i → is_plain i ≡ true
    → let e = effect flags i s.regs s.mem in
    (outcome (step_act flags s.regs s.temps) s.mem
    ≡ Ok (record { regs = e.regs; temps = s.temps; writes = e.writes; kind = Plain }))
    × (read_by (step_act flags s.regs s.temps) s.mem ≡ six_from s.regs.pc ++ read_by (plain_act flags i s.regs) s.mem)

-- what a part leaves
abbrev pub left_of : Outcome → Left
left_of o = record { regs = o.regs; temps = o.temps; writes = o.writes; kind = kind_of o.end }

-- A part of an instruction that stands at PC is one step, which reads its six bytes and what it reads itself.
abbrev pub PartIsStep : Instr → Kind → Type 0
PartIsStep i k = (flags : ℕ) (s : State) → IsOff s.temps → decode_at s.mem s.regs.pc ≡ Ok i
    → (outcome (step_act flags s.regs s.temps) s.mem ≡ Ok (left_of (part_of k flags s)))
    × (read_by (step_act flags s.regs s.temps) s.mem ≡ six_from s.regs.pc ++ read_by (k.act flags s.regs s.temps) s.mem)

-- A part of WAV while its sums run is one step, which reads what it reads itself.
abbrev pub SumsAreStep : Type 0
SumsAreStep = (flags : ℕ) (s : State) (p w : ℕ) → s.temps ≡ Running p w
    → (outcome (step_act flags s.regs s.temps) s.mem ≡ Ok (left_of (part_of wav flags s)))
    × (read_by (step_act flags s.regs s.temps) s.mem ≡ read_by (wav.act flags s.regs s.temps) s.mem)

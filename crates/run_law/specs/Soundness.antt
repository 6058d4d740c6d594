-- What a form of firmware and its handler owe, so that its runs under interrupts follow those without.
-- Beside the promise.
use Rattle.std.specs.Prelude.{◌≡◌, ℕ, ◌+◌, ◌<◌, ◌≤◌, Bool, true, List, [], ◌∷◌}
use Rattle.cpu12_isa.specs.declared.{instr.Regs.Regs, instr.Write.Write}
use Rattle.cpu12_isa.specs.Regions.{stack_start, stack_end, is_hidden, LeavesStack}
use Rattle.cpu12_isa.specs.{Memory.plus, Agreement.Agree, Fits.FitsRegs}
use Rattle.cpu12_parts.specs.{declared.temps.Temps.Temps, State.State, Parts.suspended, Parts.wav, Laws.IsOff}
use Rattle.cpu12_parts.specs.declared.temps.Temps.TheVariants.{Free, Running, OnStack}
use Rattle.cpu12_emul.specs.Take.{may_interrupt, framed}
use Rattle.cpu12_emul.specs.Simulation.{AreOpen, Same, Marks, OnStackOnly, OnStackOrNone, Simulates, HasRoom}
use Rattle.cpu12_emul.specs.Simulation.{IsShownStep}
use Rattle.run_law.specs.{Forms.Form, Uninterrupted.stepped, Uninterrupted.uninterrupted}

-- P holds at each of the n states before the last
abbrev pub Before : (State → Type 0) → ℕ → ℕ → State → Type 0
Before P flags n s = (k : ℕ) → k < n → P (uninterrupted flags k s)

-- each state of a list simulates that of the run without interrupts
abbrev pub AllSimulate : Marks → (ℕ → Bool) → ℕ → List State → State → Type 0
AllSimulate marks open_to flags [] s = Unit {0}
AllSimulate marks open_to flags (w ∷ ws) s =
    Simulates marks open_to w s × AllSimulate marks open_to flags ws (stepped flags s)

-- registers with SP below WAV's sums, where these run
abbrev pub below_sums : Regs → Temps → Regs
below_sums r Free = r
below_sums r OnStack = r
below_sums r (Running p w) = record r { sp = plus r.sp 65530 }

-- they fit, and SP is no more than six lower
pub record FitBelow (r : Regs) (t : Temps) : Type 0 where
  pub fits : FitsRegs (below_sums r t)
  pub low : r.sp ≤ (below_sums r t).sp + 6
  pub high : (below_sums r t).sp ≤ r.sp

-- So it is with registers that fit, where SP stands on the stack with room for a frame and sums.
abbrev pub SumsFitBelow : Type 0
SumsFitBelow = (r : Regs) (t : Temps) → FitsRegs r → stack_start + 15 ≤ r.sp → r.sp ≤ stack_end → FitBelow r t

-- v is the state in which a handler begins where the run without interrupts is in s: no sums run, and none are on the
-- stack where none are in s.
pub record Begins (open_to : ℕ → Bool) (v s : State) : Type 0 where
  pub temps : IsOff v.temps
  pub free : s.temps ≡ Free → v.temps ≡ Free
  pub regs : v.regs ≡ below_sums s.regs s.temps
  pub mem : Agree (is_hidden open_to s.regs.sp) v.mem s.mem

-- The sums u that a handler may leave of the sums v with which it began: v, or, where it may run WAV and they were
-- pushed, none that run.
abbrev pub AreLeft : Marks → Temps → Temps → Temps → Type 0
AreLeft OnStackOnly t u v = u ≡ v
AreLeft OnStackOrNone (Running p w) u v = IsOff u
AreLeft OnStackOrNone Free u v = u ≡ v
AreLeft OnStackOrNone OnStack u v = u ≡ v

-- u is a state that a handler may leave that began in v: the registers as they were, and the bytes that are not hidden
pub record Quiet (marks : Marks) (open_to : ℕ → Bool) (u v s : State) : Type 0 where
  pub regs : u.regs ≡ v.regs
  pub temps : AreLeft marks s.temps u.temps v.temps
  pub mem : Agree (is_hidden open_to v.regs.sp) u.mem v.mem

-- The open bytes belong to the handlers: Own says what stands there after these requests, the last first, with what
-- they told. Steps, the push of the sums and the end of a sample leave it.
pub record LeavesOpen {S A B : Type 0} (open_to : ℕ → Bool) (f : Form S A B) (P : State → Type 0)
    (Own : List (A × B) → State → Type 0) : Type 0 where
  pub leaves : (done : List (A × B)) (x : S) (w : State) → Own done w → Own done (f.leave x w)
  pub pushes : (done : List (A × B)) (w s : State) → P s → Simulates OnStackOrNone open_to w s → Own done w
      → Own done (suspended wav w)
  pub steps : (done : List (A × B)) (w s : State) → P s → Simulates OnStackOrNone open_to w s → Own done w
      → Own done (stepped f.flags w)

-- So does a sample that is given. This is asked of the samples of a run, and not of all that a form could be given.
abbrev pub GivenLeavesOwn : {S A B : Type 0} → Form S A B → (List (A × B) → State → Type 0) → S → Type 0
GivenLeavesOwn {A = A} {B = B} f Own x = (done : List (A × B)) (w : State) → Own done w → Own done (f.give x w)

-- A form is sound beside runs without interrupts whose states keep P: a step reads and writes what is shown; samples
-- are given, taken away and answered alike, and the end looks the same; and where I is 0 a good request is quiet.
pub record Sound {S A B : Type 0} (marks : Marks) (open_to : ℕ → Bool) (f : Form S A B) (P : State → Type 0)
    (Good : A → Type 0) (Own : List (A × B) → State → Type 0) : Type 0 where
  pub apart : LeavesStack open_to
  pub shown : (s : State) → P s → IsShownStep open_to f.flags s
  pub gives : (x : S) (w s : State) → Same open_to w s → Same open_to (f.give x w) (f.give x s)
  pub leaves : (x : S) (w s : State) → Same open_to w s → Same open_to (f.leave x w) (f.leave x s)
  pub answers : (w s : State) → Same open_to w s → f.answers w ≡ f.answers s
  pub ends : (m : ℕ) (w s : State) → Same open_to w s → f.ends m w ≡ f.ends m s
  pub quiet : (done : List (A × B)) (a : A) (v s : State) → Good a → P s → may_interrupt s ≡ true → Begins open_to v s
      → Own done v → Quiet marks open_to (f.handle a v) v s × Own ((a, f.tells a v) ∷ done) (f.handle a v)
  pub leaves_open : LeavesOpen open_to f P Own

-- each request is good
abbrev pub AllGood : {A : Type 0} → (A → Type 0) → List A → Type 0
AllGood Good [] = Unit {0}
AllGood Good (q ∷ qs) = Good q × AllGood Good qs

-- the moments do not fall, from this one on
abbrev pub Ascend : {A : Type 0} → (A → ℕ) → ℕ → List A → Type 0
Ascend moment m [] = Unit {0}
Ascend moment m (q ∷ qs) = (m ≤ moment q) × Ascend moment (moment q) qs

-- A handler that does writes to open bytes is quiet, and keeps the marks.
abbrev pub WritesAreQuiet : Type 0
WritesAreQuiet =
    (marks : Marks) (open_to : ℕ → Bool) (ws : List Write) (v s : State) → LeavesStack open_to → AreOpen open_to ws
    → HasRoom s → Begins open_to v s → Quiet marks open_to (framed ws v) v s

-- Wherever an interrupt has room its handler begins, as it does where the run without interrupts is there.
abbrev pub HandlersBegin : Type 0
HandlersBegin =
    (marks : Marks) (open_to : ℕ → Bool) (w s : State) → LeavesStack open_to → HasRoom s → Simulates marks open_to w s
    → Begins open_to (suspended wav w) s

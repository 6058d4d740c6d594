-- Where frames stand.
use Rattle.two_level_runs.proofs.Words.{[], ◌+◌, ◌<◌, ◌∙◌, ◌∷◌, ◌≡◌, ◌≤◌, ap, AreBelow, AreOnStack, arith, below_sums}
use Rattle.two_level_runs.proofs.Words.{Bool, expected_frame, false, frames_after, FrameSeen, Free, if◌then◌else◌}
use Rattle.two_level_runs.proofs.Words.{is_new, length, List, nat_lt, OnStack, Option, plus, refl, Regs, Running, Some}
use Rattle.two_level_runs.proofs.Words.{State, stepped, suc, sym, taken_before, Temps, true, uninterrupted, ℕ, All}
use Rattle.two_level_runs.proofs.Words.{All-cons, inl, inr, Simulates}
use Rattle.cpu12_emul.specs.Simulation.{Marks}
use Rattle.run_law.specs.Soundness.{AllSimulate}
use Rattle.cpu12_emul.specs.Take.{frame_on}
use Rattle.std.proofs.lemmas.Bool.{ltb-true}

-- a frame with the sums has room on the stack
abbrev pub HasFrameRoom : State → Type 0
HasFrameRoom s = (0x1FEF ≤ s.regs.sp) × (s.regs.sp ≤ 0x2000)

frame_fits : (first : Bool) (s : State) (t : Temps) → HasFrameRoom s
    → (let frame : FrameSeen = frame_on first s t in 0x1FE0 ≤ frame.sp)
frame_fits first s Free h = omega (arith, h.0, h.1)
frame_fits first s OnStack h = omega (arith, h.0, h.1)
frame_fits first s (Running p w) h = omega (arith, h.0, h.1)

low_at : (marks : Marks) (open_to : ℕ → Bool) (w s : State) → Simulates marks open_to w s → HasFrameRoom s
    → 0x1FE0 ≤ w.regs.sp
low_at marks open_to w s (inl l) h = let e = ap (λ (r : Regs). r.sp) l.regs in omega (arith, e, h.0)
low_at marks open_to w s (inr l) h = let e = ap (λ (r : Regs). r.sp) l.regs in omega (arith, e, h.0, h.1)

-- SP of states that simulate those which have it
pub low_all : (marks : Marks) (open_to : ℕ → Bool) (flags : ℕ) (ws : List State) (s : State)
    → AllSimulate marks open_to flags ws s
    → ((j : ℕ) → j < length ws → HasFrameRoom (uninterrupted flags j s)) → All (λ (w : State). 0x1FE0 ≤ w.regs.sp) ws
low_all marks open_to flags [] s a room = λ k d lt. absurd (omega arith)
low_all marks open_to flags (w ∷ ws) s a room =
    All-cons (λ (u : State). 0x1FE0 ≤ u.regs.sp) w ws (low_at marks open_to w s a.0 (room 0 (omega arith)))
    (low_all marks open_to flags ws (stepped flags s) a.1 (λ j l. room (suc j) (omega arith)))

-- the frames of a run before whose steps it has stand on the stack
pub frames_fit : {A : Type 0} (flags n : ℕ) (s : State) (moment : A → ℕ)
    → ((j : ℕ) → j < n → HasFrameRoom (uninterrupted flags j s)) → (qs : List A) (before : Option ℕ)
    → AreOnStack (frames_after flags moment s before (taken_before moment n qs))
frames_fit flags n s moment room [] before = tt
frames_fit {A} flags n s moment room (q ∷ qs) before =
    by (nat_lt (moment q) n) refl (λ b. frames_fit flags n s moment room qs b)
  where
    by : (x : Bool) → nat_lt (moment q) n ≡ x
        → ((b : Option ℕ) → AreOnStack (frames_after flags moment s b (taken_before moment n qs)))
        → AreOnStack (frames_after flags moment s before
        (if x then q ∷ taken_before moment n qs else taken_before moment n qs))
    by true e rest =
        (let u = uninterrupted flags (moment q) s in (
          frame_fits (is_new before (moment q)) u u.temps (room (moment q) (ltb-true (moment q) n e)),
          rest (Some (moment q)),
        ))
    by false e rest = rest before

-- and each below the one SP of its steps
frame_below : (first : Bool) (s : State) (t : Temps) (sp : ℕ) → s.regs.sp ≡ sp → HasFrameRoom s
    → (let frame : FrameSeen = frame_on first s t in frame.sp + length frame.bytes ≤ sp)
frame_below first s Free sp e h = omega (arith, e, h.0, h.1)
frame_below first s OnStack sp e h = omega (arith, e, h.0, h.1)
frame_below true s (Running p w) sp e h = omega (arith, e, h.0, h.1)
frame_below false s (Running p w) sp e h = omega (arith, e, h.0, h.1)

pub frames_below : {A : Type 0} (flags n sp : ℕ) (s : State) (moment : A → ℕ)
    → ((j : ℕ) → j < n → HasFrameRoom (uninterrupted flags j s))
    → ((j : ℕ) → j < n → (uninterrupted flags j s).regs.sp ≡ sp) → (qs : List A) (before : Option ℕ)
    → AreBelow sp (frames_after flags moment s before (taken_before moment n qs))
frames_below flags n sp s moment room at [] before = tt
frames_below {A} flags n sp s moment room at (q ∷ qs) before =
    by (nat_lt (moment q) n) refl (λ b. frames_below flags n sp s moment room at qs b)
  where
    by : (x : Bool) → nat_lt (moment q) n ≡ x
        → ((b : Option ℕ) → AreBelow sp (frames_after flags moment s b (taken_before moment n qs)))
        → AreBelow sp (frames_after flags moment s before
        (if x then q ∷ taken_before moment n qs else taken_before moment n qs))
    by true e rest =
        (let u = uninterrupted flags (moment q) s in
        let lt = ltb-true (moment q) n e in (
          frame_below (is_new before (moment q)) u u.temps sp (at (moment q) lt) (room (moment q) lt),
          rest (Some (moment q)),
        ))
    by false e rest = rest before

-- the frame at a boundary stands at the SP that the push of nine bytes below its sums leaves
pub frame_at : (first : Bool) (s : State) (r : Regs) → HasFrameRoom s → r ≡ below_sums s.regs s.temps
    → (expected_frame first s).sp ≡ plus r.sp 65527
frame_at first s r h e = by s.temps ∙ ap (λ (x : Regs). plus x.sp 65527) (sym e)
  where
    by : (t : Temps) → (frame_on first s t).sp ≡ plus (below_sums s.regs t).sp 65527
    by Free = refl
    by OnStack = refl
    by (Running p w) = omega (arith, h.0, h.1)

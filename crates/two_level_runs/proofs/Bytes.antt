-- Under interrupts memory stays one of bytes.
use Rattle.two_level_runs.proofs.Words.{[], ◌++◌, ◌<◌, ◌^◌, ◌∷◌, ◌≡◌, All, ap, AreBytes, AreSumsReady, arith, Begins}
use Rattle.two_level_runs.proofs.Words.{Bool, BytesStay, FitsRegs, FitsState, FitsTemps, FitsWrites, frame_bytes}
use Rattle.two_level_runs.proofs.Words.{framed, Free, given, HasRoom, inl, inr, List, MemoryMap, Next, OnStack}
use Rattle.two_level_runs.proofs.Words.{OnStackOrNone, placed, plus, refl, Regs, Running, Simulates, State, state_by}
use Rattle.two_level_runs.proofs.Words.{StepFits, stepped, subst, suc, suspended, sym, Temps, wav, ℕ}
use Rattle.cpu12_isa.proofs.Algebra.{fits_with_sp}
use Rattle.cpu12_parts.specs.{Parts.sum_bytes, Inside.PushesRunning, Inside.PushesNone}
use Rattle.cpu12_parts.proofs.Algebra.{off_fits}
use Rattle.cpu12_emul.specs.{Simulation.IsShownStep, Simulation.StepKeeps}
use Rattle.run_law.specs.{Soundness.SumsFitBelow}

-- the laws of lower crates
pub record BytesLaws : Type 0 where
  pub bytes_stay : BytesStay
  pub step_fits : StepFits
  pub step_keeps : StepKeeps
  pub pushes_running : PushesRunning
  pub pushes_none : PushesNone
  pub sums_fit_below : SumsFitBelow

-- bytes of a list
pub AllBytes : List ℕ → Type 0
AllBytes [] = Unit {0}
AllBytes (v ∷ vs) = (v < 2 ^ 8) × AllBytes vs

pub all_bytes : (vs : List ℕ) → All (λ v. v < 2 ^ 8) vs → AllBytes vs
unfolding AllBytes
all_bytes [] h = tt
all_bytes (v ∷ vs) h = (h 0 v (omega arith), all_bytes vs (λ k x l. h (suc k) x (omega arith)))

pub placed_fits : (at : ℕ) (vs : List ℕ) → at < 2 ^ 16 → AllBytes vs → FitsWrites (placed at vs)
unfolding AllBytes
placed_fits at [] l h = tt
placed_fits at (v ∷ vs) l h = (l, h.0, placed_fits (plus at 1) vs (omega arith) h.1)

sums_fit : (p w : ℕ) → p < 2 ^ 32 → w < 2 ^ 16 → AllBytes (sum_bytes p w)
unfolding AllBytes
sums_fit p w hp hw = (omega arith, (omega arith, (omega arith, (omega arith, (omega arith, (omega arith, tt))))))

pub frame_fits : (r : Regs) → FitsRegs r → AllBytes (frame_bytes r)
unfolding AllBytes
frame_fits r f =
    let x = f.x in
    let y = f.y in
    let pc = f.pc in
    (f.ccr, (f.b, (f.a, (omega arith, (omega arith, (omega arith, (omega arith, (omega arith, (omega arith, tt)))))))))

ready_fits : (open_to : ℕ → Bool) (s : State) (t : Temps) → AreSumsReady open_to s t → FitsTemps t
ready_fits open_to s Free h = tt
ready_fits open_to s OnStack h = tt
ready_fits open_to s (Running p w) h = (h.0, h.1)

-- a state that simulates one before a shown step fits
simulating_fits : (open_to : ℕ → Bool) (flags : ℕ) (w s : State) → IsShownStep open_to flags s
    → Simulates OnStackOrNone open_to w s
    → AreBytes w.mem → FitsState w
simulating_fits open_to flags w s shown (inl l) bytes =
    let room : HasRoom s = shown.room in
    record {
      regs = subst FitsRegs (sym l.regs) room.fits;
      temps = subst FitsTemps (sym l.temps) (ready_fits open_to s s.temps shown.sums);
      mem = bytes;
    }
simulating_fits open_to flags w s shown (inr l) bytes =
    let room : HasRoom s = shown.room in
    record {
      regs = subst FitsRegs (sym l.regs) (fits_with_sp s.regs (plus s.regs.sp 65530) room.fits (omega arith));
      temps = off_fits w.temps l.temps;
      mem = bytes;
    }

pub step_bytes : BytesLaws → (open_to : ℕ → Bool) (flags : ℕ) (w s : State) → flags < 2 ^ 8
    → IsShownStep open_to flags s
    → Simulates OnStackOrNone open_to w s → AreBytes w.mem → AreBytes (stepped flags w).mem
step_bytes laws open_to flags w s hf shown l bytes =
    let x = laws.step_keeps open_to flags w s l shown in
    let next : Next = x.next in
    let fits : FitsState next.state =
    laws.step_fits flags w next hf (simulating_fits open_to flags w s shown l bytes) x.goes in
    let there : stepped flags w ≡ next.state = ap (state_by w) x.goes in
    subst (λ (u : State). AreBytes u.mem) (sym there) fits.mem

pub push_bytes : BytesLaws → (open_to : ℕ → Bool) (flags : ℕ) (w s : State) → IsShownStep open_to flags s
    → Simulates OnStackOrNone open_to w s → AreBytes w.mem → AreBytes (suspended wav w).mem
push_bytes laws open_to flags w s shown l bytes = cases w.temps refl
  where
    fits : FitsState w
    fits = simulating_fits open_to flags w s shown l bytes

    cases : (t : Temps) → w.temps ≡ t → AreBytes (suspended wav w).mem
    cases Free e = subst (λ (u : State). AreBytes u.mem) (sym (laws.pushes_none w (inl e))) bytes
    cases OnStack e = subst (λ (u : State). AreBytes u.mem) (sym (laws.pushes_none w (inr e))) bytes
    cases (Running q k) e =
        let sums : FitsTemps (Running q k) = subst FitsTemps e fits.temps in
        subst (λ (u : State). AreBytes u.mem) (sym (laws.pushes_running w q k e))
        (laws.bytes_stay (placed (plus w.regs.sp 65530) (sum_bytes q k)) w.mem
        (placed_fits (plus w.regs.sp 65530) (sum_bytes q k) (omega arith) (sums_fit q k sums.0 sums.1)) bytes)

-- a sample is given
fits_more : (ws : List (ℕ × ℕ)) (w : ℕ × ℕ) → FitsWrites ws → w.0 < 2 ^ 16 → w.1 < 2 ^ 8 → FitsWrites (ws ++ w ∷ [])
fits_more [] w h at byte = (at, byte, tt)
fits_more (u ∷ ws) w h at byte = (h.0, h.1, fits_more ws w h.2 at byte)

pub given_bytes : BytesStay → (l : MemoryMap) (x : List ℕ) (w : State) → l.samples < 2 ^ 16 → l.sample_flag < 2 ^ 16
    → All (λ v. v < 2 ^ 8) x → AreBytes w.mem → AreBytes (given l x w).mem
given_bytes stay l x w samples ready fits bytes =
    stay (placed l.samples x ++ (l.sample_flag, 1) ∷ []) w.mem
    (fits_more (placed l.samples x) (l.sample_flag, 1) (placed_fits l.samples x samples (all_bytes x fits)) ready
    (omega arith)) bytes

-- an interrupt begins with registers that fit
pub begins_fits : BytesLaws → (open_to : ℕ → Bool) (v s : State) → HasRoom s → Begins open_to v s → FitsRegs v.regs
begins_fits laws open_to v s room begins =
    let below = laws.sums_fit_below s.regs s.temps room.fits room.low room.high in
    subst FitsRegs (sym begins.regs) below.fits

pub take_bytes : BytesStay → (v : State) → FitsRegs v.regs → AreBytes v.mem → AreBytes (framed [] v).mem
take_bytes stay v fits bytes =
    stay (placed (plus v.regs.sp 65527) (frame_bytes v.regs)) v.mem
    (placed_fits (plus v.regs.sp 65527) (frame_bytes v.regs) (omega arith) (frame_fits v.regs fits)) bytes

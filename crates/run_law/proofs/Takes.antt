-- What an interrupt leaves of a state that stands for one of the run without interrupts.
use Rattle.std.proofs.Common.{◌≡◌, ℕ, ◌+◌, ◌-◌, ◌≤◌, Bool, true, false, not, List, ◌∷◌, ◌++◌, length, refl, ap, sym}
use Rattle.std.proofs.Common.{◌∙◌, subst, arith, inl, inr, ◌⊎◌, lit≤}
use Rattle.cpu12_isa.specs.{declared.instr.Regs.Regs, Memory.plus, Memory.placed, Memory.from, Memory.bytes_at}
use Rattle.cpu12_isa.specs.Regions.{stack_start, stack_end, is_hidden, LeavesStack}
use Rattle.cpu12_isa.specs.{Act.write_all, Flags.interrupts_masked, Flags.has, Registers.frame_bytes, Agreement.Agree}
use Rattle.cpu12_isa.proofs.Algebra.{agree_with, read_placed, same_bytes}
use Rattle.cpu12_parts.specs.{declared.temps.Temps.Temps, State.State, Laws.IsOff, Inside.pushed_sums}
use Rattle.cpu12_parts.specs.declared.temps.Temps.TheVariants.{Free, Running}
use Rattle.cpu12_parts.specs.Parts.{sum_bytes, suspended, wav}
use Rattle.cpu12_parts.proofs.Algebra.{temps_cases}
use Rattle.cpu12_emul.specs.Take.{FrameSeen, frame_of, frame_on, may_interrupt}
use Rattle.cpu12_emul.specs.Simulation.{Same, Marks, OnStackOnly, OnStackOrNone, AreMarked, Parked, Simulates}
use Rattle.cpu12_emul.specs.Simulation.{HasRoom, IsShownStep}
use Rattle.cpu12_emul.proofs.Algebra.{pushed_marked, marked_off}
use Rattle.run_law.specs.Forms.{Form, taken, told}
use Rattle.run_law.specs.Soundness.{below_sums, Begins, AreLeft, Quiet, HandlersBegin}
use Rattle.run_law.specs.{Uninterrupted.expected_frame, Following.IsToldIn, Steps.MachineLaws}
use Rattle.run_law.proofs.Grounds.{Ground}

-- which sums a handler may leave
left_running : (marks : Marks) (t u v : Temps) (p q : ℕ) → t ≡ Running p q → AreMarked marks v → AreLeft marks t u v
    → AreMarked marks u
left_running OnStackOnly t u v p q e is l = l ∙ is
left_running OnStackOrNone t u v p q e is l = subst (λ (x : Temps). AreLeft OnStackOrNone x u v) e l

left_off : (marks : Marks) (t u v : Temps) → IsOff t → AreLeft marks t u v → u ≡ v
left_off OnStackOnly t u v off l = l
left_off OnStackOrNone t u v (inl e) l = subst (λ (x : Temps). AreLeft OnStackOrNone x u v) e l
left_off OnStackOrNone t u v (inr e) l = subst (λ (x : Temps). AreLeft OnStackOrNone x u v) e l

-- a state that simulates does so where sums may be marked as none too
pub simulates_loosely : (marks : Marks) (open_to : ℕ → Bool) (w s : State) → Simulates marks open_to w s
    → Simulates OnStackOrNone open_to w s
simulates_loosely marks open_to w s (inl l) = inl l
simulates_loosely marks open_to w s (inr l) = inr (record {
  product = l.product;
  weight = l.weight;
  running = l.running;
  temps = marked_off marks w.temps l.temps;
  regs = l.regs;
  sums = l.sums;
  mem = l.mem;
})

off_as : (t u : Temps) → t ≡ u → IsOff u → IsOff t
off_as t u e off = subst (λ (x : Temps). IsOff x) (sym e) off

-- where sums run they are not none
running_differs : (t : Temps) (p q : ℕ) → t ≡ Running p q → t ≡ Free → ⊥
running_differs t p q r f = cc

below_off : (r : Regs) (t : Temps) → IsOff t → r ≡ below_sums r t
below_off r t (inl e) = ap (below_sums r) (sym e)
below_off r t (inr e) = ap (below_sums r) (sym e)

-- what an interrupt's push of running sums leaves is hidden
pushed_agrees : MachineLaws → (open_to : ℕ → Bool) (w s : State) (p q : ℕ) → Same open_to w s → LeavesStack open_to
    → stack_start + 15 ≤ s.regs.sp
    → s.regs.sp ≤ stack_end
    → Agree (is_hidden open_to s.regs.sp) (write_all (placed (plus w.regs.sp 65530) (sum_bytes p q)) w.mem) w.mem
pushed_agrees laws open_to w s p q l a lo hi =
    let sp : w.regs.sp ≡ s.regs.sp = ap (λ (r : Regs). r.sp) l.regs in
    let base : plus w.regs.sp 65530 ≡ s.regs.sp - 6 = omega arith in
    subst (λ (k : ℕ). Agree (is_hidden open_to s.regs.sp) (write_all (placed k (sum_bytes p q)) w.mem) w.mem) (sym base)
    (laws.pushed open_to s.regs.sp 6 (sum_bytes p q) w.mem hi refl (omega arith))

-- the states at a boundary: before the first interrupt, and after
pub Settled : Marks → (ℕ → Bool) → Bool → State → State → Type 0
Settled marks open_to first w s =
    (Same open_to w s × ((first ≡ true) ⊎ IsOff s.temps)) ⊎ (Parked marks open_to w s × (first ≡ false))

pub settled_first : (marks : Marks) (open_to : ℕ → Bool) (w s : State) → Same open_to w s
    → Settled marks open_to true w s
unfolding Settled
settled_first marks open_to w s l = inl (l, inl refl)

pub settled_near : (marks : Marks) (open_to : ℕ → Bool) (first : Bool) (w s : State) → Settled marks open_to first w s
    → Simulates marks open_to w s
unfolding Settled
settled_near marks open_to first w s (inl l) = inl l.0
settled_near marks open_to first w s (inr l) = inr l.0

pub settled_may : (marks : Marks) (open_to : ℕ → Bool) (first : Bool) (w s : State) → Settled marks open_to first w s
    → may_interrupt w ≡ may_interrupt s
unfolding Settled
settled_may marks open_to first w s (inl l) = ap (λ (r : Regs). not (has r.ccr interrupts_masked)) l.0.regs
settled_may marks open_to first w s (inr l) = ap (λ (r : Regs). not (has r.ccr interrupts_masked)) l.0.regs

-- the registers and the memory in which a handler begins, the frame, and what a quiet handler leaves
record Taken (marks : Marks) (open_to : ℕ → Bool) (first : Bool) (w s : State) : Type 0 where
  begins : Begins open_to (suspended wav w) s
  frame : frame_of w ≡ expected_frame first s
  after : (u : State) → Quiet marks open_to u (suspended wav w) s → Settled marks open_to false u s

-- where sums run they are parked
taken_running : MachineLaws → (marks : Marks) (open_to : ℕ → Bool) (w s : State) (p q : ℕ) → LeavesStack open_to
    → HasRoom s → Same open_to w s → s.temps ≡ Running p q
    → Taken marks open_to true w s
unfolding Settled
taken_running laws marks open_to w s p q a k l run =
    let lo = k.low in
    let hi = k.high in
    let fits = k.fits in
    let sp : w.regs.sp ≡ s.regs.sp = ap (λ (r : Regs). r.sp) l.regs in
    let size : length w.mem ≡ 65536 = l.mem.size ∙ k.size in
    let now : w.temps ≡ Running p q = l.temps ∙ run in
    let x = pushed_sums w.regs p q w.mem in
    let is : suspended wav w ≡ x = laws.running w p q now in
    let wrote = pushed_agrees laws open_to w s p q l a lo hi in
    let below : Agree (is_hidden open_to s.regs.sp) x.mem s.mem =
    agree_with (is_hidden open_to s.regs.sp) x.mem w.mem s.mem wrote l.mem in
    record {
      begins = subst (λ (v : State). Begins open_to v s) (sym is) (record {
        temps = inr refl;
        free = λ e. absurd (running_differs s.temps p q run e);
        regs = ap (λ (r : Regs). record r { sp = plus r.sp 65530 }) l.regs ∙ ap (below_sums s.regs) (sym run);
        mem = below;
      });
      frame = laws.frame_is_on_stack w size (omega arith) ∙ ap (frame_on true w) now
          ∙ ap (λ (r : Regs). full_by r p q) l.regs
          ∙ ap (λ (t : Temps). frame_on true s t) (sym run);
      after = λ u quiet. inr (parked_by u (subst (λ (v : State). Quiet marks open_to u v s) is quiet), refl);
    }
  where
    full_by : Regs → ℕ → ℕ → FrameSeen
    full_by r p q = record { pc = r.pc; sp = plus r.sp 65521; bytes = frame_bytes r ++ sum_bytes p q }

    parked_by : (u : State) → Quiet marks open_to u (pushed_sums w.regs p q w.mem) s → Parked marks open_to u s
    parked_by u quiet =
        let lo = k.low in
        let hi = k.high in
        let x = pushed_sums w.regs p q w.mem in
        let sp : w.regs.sp ≡ s.regs.sp = ap (λ (r : Regs). r.sp) l.regs in
        let base : plus w.regs.sp 65530 ≡ s.regs.sp - 6 = omega arith in
        let got : bytes_at u.mem (from (plus w.regs.sp 65530) 6) ≡ bytes_at x.mem (from (plus w.regs.sp 65530) 6) =
        same_bytes (is_hidden open_to (plus w.regs.sp 65530)) u.mem x.mem quiet.mem (from (plus w.regs.sp 65530) 6)
        (laws.shown open_to (plus w.regs.sp 65530) (plus w.regs.sp 65530) 6 a (omega arith) (omega arith)
        (omega arith)) in
        let put : bytes_at x.mem (from (plus w.regs.sp 65530) 6) ≡ sum_bytes p q =
        read_placed (sum_bytes p q) (plus w.regs.sp 65530) w.mem (omega arith) (lit≤ tt) (l.mem.size ∙ k.size) in
        let at : plus w.regs.sp 65530 ≡ plus s.regs.sp 65530 = omega arith in
        record {
          product = p;
          weight = q;
          running = run;
          temps = left_running marks s.temps u.temps x.temps p q run (pushed_marked marks) quiet.temps;
          regs = quiet.regs ∙ ap (λ (r : Regs). record r { sp = plus r.sp 65530 }) l.regs;
          sums = subst (λ (k : ℕ). bytes_at u.mem (from k 6) ≡ sum_bytes p q) at (got ∙ put);
          mem = agree_with (is_hidden open_to s.regs.sp) u.mem x.mem s.mem
              (laws.more open_to (plus w.regs.sp 65530) s.regs.sp u.mem x.mem (omega arith) quiet.mem)
              (agree_with (is_hidden open_to s.regs.sp) x.mem w.mem s.mem
              (pushed_agrees laws open_to w s p q l a lo hi) l.mem);
        }

abbrev nine_frame : Regs → ℕ → FrameSeen
nine_frame r sp = record { pc = r.pc; sp = sp; bytes = frame_bytes r }

frame_off : (w : State) → IsOff w.temps → frame_on true w w.temps ≡ nine_frame w.regs (plus w.regs.sp 65527)
frame_off w (inl e) = ap (frame_on true w) e
frame_off w (inr e) = ap (frame_on true w) e

expected_off : (first : Bool) (s : State) → IsOff s.temps
    → expected_frame first s ≡ nine_frame s.regs (plus s.regs.sp 65527)
expected_off first s (inl e) = ap (λ (t : Temps). frame_on first s t) e
expected_off first s (inr e) = ap (λ (t : Temps). frame_on first s t) e

-- where none run the state stays the same
taken_off : MachineLaws → (marks : Marks) (open_to : ℕ → Bool) (first : Bool) (w s : State) → HasRoom s
    → Same open_to w s → IsOff s.temps → Taken marks open_to first w s
unfolding Settled
taken_off laws marks open_to first w s k l off =
    let fits = k.fits in
    let sp : w.regs.sp ≡ s.regs.sp = ap (λ (r : Regs). r.sp) l.regs in
    let off_w : IsOff w.temps = off_as w.temps s.temps l.temps off in
    let is : suspended wav w ≡ w = laws.none w off_w in
    record {
      begins = subst (λ (v : State). Begins open_to v s) (sym is) (record {
        temps = off_w;
        free = λ e. l.temps ∙ e;
        regs = l.regs ∙ below_off s.regs s.temps off;
        mem = l.mem;
      });
      frame = laws.frame_is_on_stack w (l.mem.size ∙ k.size) (omega arith) ∙ frame_off w off_w
          ∙ ap (λ (r : Regs). nine_frame r (plus r.sp 65527)) l.regs
          ∙ sym (expected_off first s off);
      after = λ u q. inl (same_by u (subst (λ (v : State). Quiet marks open_to u v s) is q), inr off);
    }
  where
    same_by : (u : State) → Quiet marks open_to u w s → Same open_to u s
    same_by u q =
        let sp : w.regs.sp ≡ s.regs.sp = ap (λ (r : Regs). r.sp) l.regs in
        record {
          regs = q.regs ∙ l.regs;
          temps = left_off marks s.temps u.temps w.temps off q.temps ∙ l.temps;
          mem = agree_with (is_hidden open_to s.regs.sp) u.mem w.mem s.mem
              (subst (λ (k : ℕ). Agree (is_hidden open_to k) u.mem w.mem) sp q.mem) l.mem;
        }

-- where they are parked they stay so
taken_parked : MachineLaws → (marks : Marks) (open_to : ℕ → Bool) (w s : State) → LeavesStack open_to → HasRoom s
    → Parked marks open_to w s → Taken marks open_to false w s
unfolding Settled
taken_parked laws marks open_to w s a k l =
    let lo = k.low in
    let hi = k.high in
    let sp : w.regs.sp ≡ plus s.regs.sp 65530 = ap (λ (r : Regs). r.sp) l.regs in
    let off : IsOff w.temps = marked_off marks w.temps l.temps in
    let is : suspended wav w ≡ w = laws.none w off in
    let low : plus (plus s.regs.sp 65530) 65527 ≡ plus s.regs.sp 65521 = omega arith in
    record {
      begins = subst (λ (v : State). Begins open_to v s) (sym is) (record {
        temps = off;
        free = λ e. absurd (running_differs s.temps l.product l.weight l.running e);
        regs = l.regs ∙ ap (below_sums s.regs) (sym l.running);
        mem = l.mem;
      });
      frame = laws.frame_is_on_stack w (l.mem.size ∙ k.size) (omega arith) ∙ frame_off w off
          ∙ ap (λ (r : Regs). nine_frame r (plus r.sp 65527)) l.regs
          ∙ ap (nine_frame (s.regs)) low
          ∙ ap (λ (t : Temps). frame_on false s t) (sym l.running);
      after = λ u q. inr (stays_by u (subst (λ (v : State). Quiet marks open_to u v s) is q), refl);
    }
  where
    stays_by : (u : State) → Quiet marks open_to u w s → Parked marks open_to u s
    stays_by u q =
        let lo = k.low in
        let hi = k.high in
        let sp : w.regs.sp ≡ plus s.regs.sp 65530 = ap (λ (r : Regs). r.sp) l.regs in
        let got : bytes_at u.mem (from (plus s.regs.sp 65530) 6) ≡ bytes_at w.mem (from (plus s.regs.sp 65530) 6) =
        same_bytes (is_hidden open_to w.regs.sp) u.mem w.mem q.mem (from (plus s.regs.sp 65530) 6)
        (laws.shown open_to w.regs.sp (plus s.regs.sp 65530) 6 a (omega arith) (omega arith) (omega arith)) in
        record {
          product = l.product;
          weight = l.weight;
          running = l.running;
          temps = left_running marks s.temps u.temps w.temps l.product l.weight l.running l.temps q.temps;
          regs = q.regs ∙ l.regs;
          sums = got ∙ l.sums;
          mem = agree_with (is_hidden open_to s.regs.sp) u.mem w.mem s.mem
              (laws.more open_to w.regs.sp s.regs.sp u.mem w.mem (omega arith) q.mem) l.mem;
        }

taken_any : MachineLaws → (marks : Marks) (open_to : ℕ → Bool) (first : Bool) (w s : State) → LeavesStack open_to
    → HasRoom s → Settled marks open_to first w s → Taken marks open_to first w s
unfolding Settled
taken_any laws marks open_to first w s a k (inr l) =
    subst (λ (b : Bool). Taken marks open_to b w s) (sym l.1) (taken_parked laws marks open_to w s a k l.0)
taken_any laws marks open_to first w s a k (inl l) = elim (temps_cases s.temps) [
  | inl off ↦ taken_off laws marks open_to first w s k l.0 off
  | inr r ↦ elim l.1 [
    | inl f ↦ subst (λ (b : Bool). Taken marks open_to b w s) (sym f)
        (taken_running laws marks open_to w s r.0 r.1 a k l.0 r.2)
    | inr off ↦ taken_off laws marks open_to first w s k l.0 off
  ]
]

pub handlers_begin : MachineLaws → HandlersBegin
unfolding Settled
handlers_begin laws marks open_to w s a k (inl l) =
    let t = taken_any laws marks open_to true w s a k (inl (l, inl refl)) in t.begins
handlers_begin laws marks open_to w s a k (inr l) = let t = taken_parked laws marks open_to w s a k l in t.begins

-- one interrupt
pub record Took {S A B : Type 0} (marks : Marks) (open_to : ℕ → Bool) (f : Form S A B)
    (Own : List (A × B) → State → Type 0) (first : Bool) (done : List (A × B)) (a : A) (w s : State) : Type 0 where
  pub tells : IsToldIn open_to f Own s done (told f a w)
  pub frame : frame_of w ≡ expected_frame first s
  pub after : Settled marks open_to false (taken f a w) s
  pub own : Own (told f a w ∷ done) (taken f a w)

pub took_one : {S A B : Type 0} (marks : Marks) (open_to : ℕ → Bool) (f : Form S A B) (P : State → Type 0)
    (Good : A → Type 0) (Own : List (A × B) → State → Type 0)
    → Ground marks open_to f P Good Own
    → (first : Bool) (done : List (A × B)) (a : A) (w s : State) → Good a → P s → may_interrupt s ≡ true
    → Settled marks open_to first w s → Own done w
    → Took marks open_to f Own first done a w s
took_one marks open_to f P Good Own gr first done a w s good ps may l own =
    let sd = gr.sound in
    let seen : IsShownStep open_to f.flags s = sd.shown s ps in
    let t = taken_any gr.machine marks open_to first w s sd.apart seen.room l in
    let keeps = sd.leaves_open in
    let begun = keeps.pushes done w s ps
    (simulates_loosely marks open_to w s (settled_near marks open_to first w s l)) own in
    let q = sd.quiet done a (suspended wav w) s good ps may t.begins begun in
    record {
      tells = record { begun = suspended wav w; begins = t.begins; own = begun; tells = refl };
      frame = t.frame;
      after = t.after (taken f a w) q.0;
      own = q.1;
    }

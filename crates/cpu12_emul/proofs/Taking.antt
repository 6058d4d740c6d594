-- Interrupts keep the simulation.
use Rattle.std.proofs.Common.{◌≡◌, ℕ, ◌+◌, ◌-◌, ◌%◌, ◌^◌, Bool, true, false, ◌&&◌, nat_lt, nat_le, List, [], ◌∷◌}
use Rattle.std.proofs.Common.{◌++◌, length, refl, ap, ap₂, sym, ◌∙◌}
use Rattle.std.proofs.Common.{subst, arith, inl, inr, lit≤}
use Rattle.std.proofs.lemmas.Bool.{or_parts, false≢true}
use Rattle.cpu12_isa.specs.declared.{instr.Regs.Regs, instr.Write.Write}
use Rattle.cpu12_isa.specs.{Act.write_all, Memory.plus, Memory.from, Memory.placed, Memory.bytes_at}
use Rattle.cpu12_isa.specs.{Registers.frame_bytes, Registers.pulled, Agreement.Agree, Agreement.IsWritten}
use Rattle.cpu12_isa.specs.{Regions.stack_start, Regions.is_hidden, Regions.LeavesStack, Fits.FitsRegs}
use Rattle.cpu12_isa.proofs.Algebra.{unwritten, length_writes, agree_with, place_of, read_placed, bytes_unwritten}
use Rattle.cpu12_isa.proofs.Algebra.{bytes_split, fits_with_sp, same_bytes}
use Rattle.cpu12_parts.specs.{declared.temps.Temps.Temps, declared.temps.Temps.TheVariants.Running, State.State}
use Rattle.cpu12_parts.specs.{Parts.sum_bytes, Laws.IsOff}
use Rattle.cpu12_parts.specs.Inside.{pushed_sums, PushesRunning, PushesNone}
use Rattle.cpu12_parts.proofs.Algebra.{temps_cases}
use Rattle.cpu12_emul.specs.Take.{pairs_of, pushed, written, framed, taken, FrameSeen, frame_size, frame_of, frame_on}
use Rattle.cpu12_emul.specs.Simulation.{AreOpen, Same, Marks, Parked, HasRoom, TakesQuietly, TakeKeeps}
use Rattle.cpu12_emul.specs.Simulation.{FrameIsOnStack, PushLaws}
use Rattle.cpu12_emul.proofs.Algebra.{pushed_marked, marked_off}

-- writes to open bytes
open_writes : (open_to : ℕ → Bool) (ws : List Write) (at : ℕ) → AreOpen open_to ws → IsWritten (pairs_of ws) at
    → open_to at ≡ true
open_writes open_to [] at g w = absurd w
open_writes open_to (x ∷ ws) at g w =
    elim w [ inl e ↦ subst (λ (k : ℕ). open_to k ≡ true) (sym e) g.0 | inr k ↦ open_writes open_to ws at g.1 k ]

pub takes_quietly : PushLaws → TakesQuietly
takes_quietly laws open_to ws s leaves good z f a b =
    let base : ℕ = plus s.regs.sp 65527 in
    let bytes : List ℕ = frame_bytes s.regs in
    let low : plus s.regs.sp 65527 ≡ s.regs.sp - 9 = omega arith in
    let wrote : Agree (is_hidden open_to s.regs.sp) (pushed s).mem s.mem =
    subst (λ (k : ℕ). Agree (is_hidden open_to s.regs.sp) (write_all (placed k (frame_bytes s.regs)) s.mem) s.mem)
    (sym low) (laws.pushed open_to s.regs.sp 9 (frame_bytes s.regs) s.mem b refl (omega arith)) in
    let closed : (at : ℕ) → open_to at ≡ false → IsWritten (pairs_of ws) at → ⊥ =
    λ at h w. false≢true (sym h ∙ open_writes open_to ws at good w) in
    let after : Agree (is_hidden open_to s.regs.sp) (written ws (pushed s)).mem (pushed s).mem = record {
      size = length_writes (pairs_of ws) (pushed s).mem;
      bytes = λ at h. unwritten (pairs_of ws) (pushed s).mem at
          (closed at (or_parts (open_to at) (nat_le stack_start at && nat_lt at s.regs.sp) h).0);
    } in
    let still : bytes_at (written ws (pushed s)).mem (from (plus s.regs.sp 65527) 9) ≡ bytes_at (pushed s).mem
    (from (plus s.regs.sp 65527) 9) =
    bytes_unwritten (pairs_of ws) (pushed s).mem 9 (plus s.regs.sp 65527) (omega arith) (λ k l w.
    (let o = open_writes open_to ws ((plus s.regs.sp 65527 + k) % 2 ^ 16) good w in
    elim (leaves ((plus s.regs.sp 65527 + k) % 2 ^ 16) o) [ inl q ↦ omega arith | inr q ↦ omega arith ])) in
    let back : bytes_at (pushed s).mem (from (plus s.regs.sp 65527) 9) ≡ frame_bytes s.regs =
    read_placed (frame_bytes s.regs) (plus s.regs.sp 65527) s.mem (omega arith) (lit≤ tt) z in
    record {
      regs = ap (pulled (pushed s).regs) (still ∙ back) ∙ laws.frame_comes_back s.regs f;
      temps = refl;
      mem = agree_with (is_hidden open_to s.regs.sp) (written ws (pushed s)).mem (pushed s).mem s.mem after wrote;
    }

-- an interrupt where the sums run parks them
parks : PushLaws → (marks : Marks) (open_to : ℕ → Bool) (ws : List Write) (s t : State) (p w : ℕ) → LeavesStack open_to
    → AreOpen open_to ws → HasRoom t → Same open_to s t
    → s.temps ≡ Running p w → Parked marks open_to (taken ws s) t
parks laws marks open_to ws s t p w leaves good room l run =
    let x = pushed_sums s.regs p w s.mem in
    let fits = room.fits in
    let lo = room.low in
    let hi = room.high in
    let sp : s.regs.sp ≡ t.regs.sp = ap (λ (r : Regs). r.sp) l.regs in
    let size : length s.mem ≡ 65536 = l.mem.size ∙ room.size in
    let base : plus s.regs.sp 65530 ≡ t.regs.sp - 6 = omega arith in
    let wrote : Agree (is_hidden open_to t.regs.sp)
    (write_all (placed (plus s.regs.sp 65530) (sum_bytes p w)) s.mem) s.mem =
    subst (λ (k : ℕ). Agree (is_hidden open_to t.regs.sp) (write_all (placed k (sum_bytes p w)) s.mem) s.mem) (sym base)
    (laws.pushed open_to t.regs.sp 6 (sum_bytes p w) s.mem hi refl (omega arith)) in
    let fits_s : FitsRegs s.regs = subst (λ (r : Regs). FitsRegs r) (sym l.regs) fits in
    let u =
    takes_quietly laws open_to ws x leaves good
    (length_writes (placed (plus s.regs.sp 65530) (sum_bytes p w)) s.mem ∙ size)
    (fits_with_sp s.regs (plus s.regs.sp 65530) fits_s (omega arith)) (omega arith) (omega arith) in
    let got : bytes_at (framed ws x).mem (from (plus s.regs.sp 65530) 6) ≡ bytes_at x.mem
    (from (plus s.regs.sp 65530) 6) =
    same_bytes (is_hidden open_to (plus s.regs.sp 65530)) (framed ws x).mem x.mem u.mem (from (plus s.regs.sp 65530) 6)
    (laws.shown open_to (plus s.regs.sp 65530) (plus s.regs.sp 65530) 6 leaves (omega arith) (omega arith)
    (omega arith)) in
    let there : bytes_at x.mem (from (plus s.regs.sp 65530) 6) ≡ sum_bytes p w =
    read_placed (sum_bytes p w) (plus s.regs.sp 65530) s.mem (omega arith) (lit≤ tt) size in
    let at : plus s.regs.sp 65530 ≡ plus t.regs.sp 65530 = omega arith in
    let parked : Parked marks open_to (framed ws x) t = record {
      product = p;
      weight = w;
      running = sym l.temps ∙ run;
      temps = pushed_marked marks;
      regs = u.regs ∙ ap (λ (r : Regs). record r { sp = plus r.sp 65530 }) l.regs;
      sums = subst (λ (k : ℕ). bytes_at (framed ws x).mem (from k 6) ≡ sum_bytes p w) at (got ∙ there);
      mem = agree_with (is_hidden open_to t.regs.sp) (framed ws x).mem x.mem t.mem
          (laws.more open_to (plus s.regs.sp 65530) t.regs.sp (framed ws x).mem x.mem (omega arith) u.mem)
          (agree_with (is_hidden open_to t.regs.sp) x.mem s.mem t.mem wrote l.mem);
    } in
    subst (λ (v : State). Parked marks open_to (framed ws v) t) (sym (laws.running s p w run)) parked

-- a further one leaves them
stays_parked : PushLaws → (marks : Marks) (open_to : ℕ → Bool) (ws : List Write) (s t : State) → LeavesStack open_to
    → AreOpen open_to ws → HasRoom t → Parked marks open_to s t
    → Parked marks open_to (taken ws s) t
stays_parked laws marks open_to ws s t leaves good room l =
    let fits = room.fits in
    let lo = room.low in
    let hi = room.high in
    let sp : s.regs.sp ≡ plus t.regs.sp 65530 = ap (λ (r : Regs). r.sp) l.regs in
    let size : length s.mem ≡ 65536 = l.mem.size ∙ room.size in
    let fits_s : FitsRegs s.regs =
    subst (λ (r : Regs). FitsRegs r) (sym l.regs) (fits_with_sp t.regs (plus t.regs.sp 65530) fits (omega arith)) in
    let u = takes_quietly laws open_to ws s leaves good size fits_s (omega arith) (omega arith) in
    let got : bytes_at (framed ws s).mem (from (plus t.regs.sp 65530) 6) ≡ bytes_at s.mem
    (from (plus t.regs.sp 65530) 6) =
    same_bytes (is_hidden open_to s.regs.sp) (framed ws s).mem s.mem u.mem (from (plus t.regs.sp 65530) 6)
    (laws.shown open_to s.regs.sp (plus t.regs.sp 65530) 6 leaves (omega arith) (omega arith) (omega arith)) in
    let parked : Parked marks open_to (framed ws s) t = record {
      product = l.product;
      weight = l.weight;
      running = l.running;
      temps = l.temps;
      regs = u.regs ∙ l.regs;
      sums = got ∙ l.sums;
      mem = agree_with (is_hidden open_to t.regs.sp) (framed ws s).mem s.mem t.mem
          (laws.more open_to s.regs.sp t.regs.sp (framed ws s).mem s.mem (omega arith) u.mem) l.mem;
    } in
    subst (λ (v : State). Parked marks open_to (framed ws v) t)
    (sym (laws.none s (marked_off marks s.temps l.temps))) parked

-- where no sums run the state stays the same
stays_same : PushLaws → (open_to : ℕ → Bool) (ws : List Write) (s t : State) → LeavesStack open_to → AreOpen open_to ws
    → HasRoom t → Same open_to s t
    → IsOff s.temps → Same open_to (taken ws s) t
stays_same laws open_to ws s t leaves good room l off =
    let lo = room.low in
    let hi = room.high in
    let sp : s.regs.sp ≡ t.regs.sp = ap (λ (r : Regs). r.sp) l.regs in
    let fits_s : FitsRegs s.regs = subst (λ (r : Regs). FitsRegs r) (sym l.regs) room.fits in
    let u = takes_quietly laws open_to ws s leaves good (l.mem.size ∙ room.size) fits_s (omega arith) (omega arith) in
    let same : Same open_to (framed ws s) t = record {
      regs = u.regs ∙ l.regs;
      temps = u.temps ∙ l.temps;
      mem = agree_with (is_hidden open_to t.regs.sp) (framed ws s).mem s.mem t.mem
          (subst (λ (k : ℕ). Agree (is_hidden open_to k) (framed ws s).mem s.mem) sp u.mem) l.mem;
    } in
    subst (λ (v : State). Same open_to (framed ws v) t) (sym (laws.none s off)) same

pub take_keeps : PushLaws → TakeKeeps
take_keeps laws marks open_to ws s t leaves good room (inl l) = elim (temps_cases s.temps) [
  | inl off ↦ inl (stays_same laws open_to ws s t leaves good room l off)
  | inr run ↦ inr (parks laws marks open_to ws s t run.0 run.1 leaves good room l run.2)
]
take_keeps laws marks open_to ws s t leaves good room (inr l) =
    inr (stays_parked laws marks open_to ws s t leaves good room l)

-- the nine bytes stand on the stack
nine_there : (s : State) → length s.mem ≡ 65536
    → bytes_at (pushed s).mem (from (plus s.regs.sp 65527) 9) ≡ frame_bytes s.regs
nine_there s size = read_placed (frame_bytes s.regs) (plus s.regs.sp 65527) s.mem (omega arith) (lit≤ tt) size

-- and the sums behind them
fifteen_there : (r : Regs) (p w : ℕ) (m : List ℕ) → length m ≡ 65536 → let v = pushed_sums r p w m in
    bytes_at (pushed v).mem (from (plus v.regs.sp 65527) 15) ≡ frame_bytes r ++ sum_bytes p w
fifteen_there r p w m size =
    let v = pushed_sums r p w m in
    let b = plus v.regs.sp 65527 in
    let size2 : length v.mem ≡ 65536 = length_writes (placed (plus r.sp 65530) (sum_bytes p w)) m ∙ size in
    let place : (b + 9) % 2 ^ 16 ≡ plus r.sp 65530 = omega arith in
    let six : bytes_at (pushed v).mem (from (plus r.sp 65530) 6) ≡ sum_bytes p w =
    bytes_unwritten (placed b (frame_bytes v.regs)) v.mem 6 (plus r.sp 65530) (omega arith)
    (λ k l x. (let o = place_of (frame_bytes v.regs) b ((plus r.sp 65530 + k) % 2 ^ 16) (omega arith) x in
    omega (arith, o.1, o.2)))
    ∙ read_placed (sum_bytes p w) (plus r.sp 65530) m (omega arith) (lit≤ tt) size in
    bytes_split (pushed v).mem b 9 6 (omega arith)
    ∙ ap₂ (λ (k l : List ℕ). k ++ l) (nine_there v size2)
    (ap (λ (j : ℕ). bytes_at (pushed v).mem (from j 6)) place ∙ six)

frame_from : State → ℕ → FrameSeen
frame_from v n = record
    { pc = v.regs.pc; sp = plus v.regs.sp 65527; bytes = bytes_at (pushed v).mem (from (plus v.regs.sp 65527) n) }

plain_frame : PushesNone → (s : State) → IsOff s.temps → length s.mem ≡ 65536
    → frame_of s ≡ record { pc = s.regs.pc; sp = plus s.regs.sp 65527; bytes = frame_bytes s.regs }
unfolding frame_from
plain_frame none s off size =
    ap (λ (v : State). frame_from v (frame_size s.temps)) (none s off)
    ∙ ap (frame_from s) (size_of s.temps off)
    ∙ ap (by s) (nine_there s size)
  where
    size_of : (t : Temps) → IsOff t → frame_size t ≡ 9
    size_of t (inl e) = ap frame_size e
    size_of t (inr e) = ap frame_size e

    by : State → List ℕ → FrameSeen
    by v b = record { pc = v.regs.pc; sp = plus v.regs.sp 65527; bytes = b }

full_frame : PushesRunning → (s : State) (p w : ℕ) → s.temps ≡ Running p w → length s.mem ≡ 65536
    → frame_of s ≡ record { pc = s.regs.pc; sp = plus s.regs.sp 65521; bytes = frame_bytes s.regs ++ sum_bytes p w }
unfolding frame_from
full_frame running s p w e size =
    let sp : plus (plus s.regs.sp 65530) 65527 ≡ plus s.regs.sp 65521 = omega arith in
    ap₂ frame_from (running s p w e) (ap frame_size e)
    ∙ ap₂ (by s) sp (fifteen_there s.regs p w s.mem size)
  where
    by : State → ℕ → List ℕ → FrameSeen
    by v k b = record { pc = v.regs.pc; sp = k; bytes = b }

frame_on_off : (s : State) (t : Temps) → IsOff t
    → frame_on true s t ≡ record { pc = s.regs.pc; sp = plus s.regs.sp 65527; bytes = frame_bytes s.regs }
frame_on_off s t (inl e) = ap (frame_on true s) e
frame_on_off s t (inr e) = ap (frame_on true s) e

pub frame_is_on_stack : PushesRunning → PushesNone → FrameIsOnStack
frame_is_on_stack running none s size low = elim (temps_cases s.temps) [
  | inl off ↦ plain_frame none s off size ∙ sym (frame_on_off s s.temps off)
  | inr run ↦ full_frame running s run.0 run.1 run.2 size ∙ sym (ap (frame_on true s) run.2)
]

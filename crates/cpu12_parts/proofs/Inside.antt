-- What stands between two parts, and what is pushed there.
use Rattle.std.proofs.Common.{◌≡◌, ◌==◌, ℕ, ◌+◌, ◌-◌, ◌*◌, ◌%◌, ◌^◌, min, Bool, true, false, List, [], get_or, refl, ap}
use Rattle.std.proofs.Common.{sym, ◌∙◌, inl, inr, arith}
use Rattle.std.specs.Prelude.{if◌then◌else◌}
use Rattle.cpu12_isa.specs.declared.{instr.Regs.Regs, instr.Ccr.Ccr}
use Rattle.cpu12_isa.specs.Flags.{has, put, opened, interrupts_masked, overflow, carry, hnzc, hnz, hnzvc}
use Rattle.cpu12_isa.specs.{Act.Act, Act.outcome, Memory.plus, Memory.word_of, Plain.interrupt_masks}
use Rattle.cpu12_isa.proofs.Algebra.{masked_opened, masked_put}
use Rattle.cpu12_parts.specs.declared.temps.Temps.{Temps}
use Rattle.cpu12_parts.specs.declared.temps.Temps.TheVariants.{Free, Running, OnStack}
use Rattle.cpu12_parts.specs.declared.temps.PartEnd.TheVariants.{More, Done}
use Rattle.cpu12_parts.specs.Parts.{rev, revw, wav, suspended, leaving, met, element, rev_element, revw_element}
use Rattle.cpu12_parts.specs.Parts.{wav_end, wav_from, wav_act}
use Rattle.cpu12_parts.specs.Inside.{own_address, second_byte, GoesOnAt, LeavesSums, WritesNothing, PushesRunning}
use Rattle.cpu12_parts.specs.Inside.{PushesNone}
use Rattle.cpu12_parts.specs.{State.State, State.Outcome, Laws.state_of}

-- I stays where flags are taken from FLAGS, and where V is set
same_opened : (c : Ccr) (mask flags : ℕ) → interrupt_masks (opened c mask flags) ≡ interrupt_masks c
    → has (opened c mask flags) interrupts_masked ≡ has c interrupts_masked
same_opened c mask flags e = ap (λ (m : Bool × Bool). m.0) e

same_put : (c : Ccr) (b : Bool) → has (put c overflow b) interrupts_masked ≡ has c interrupts_masked
same_put c b = ap (λ (m : Bool × Bool). m.0) (masked_put c 1 b (omega arith))

-- a choice between two acts
choice : (P : Outcome → Type 0) (m : List ℕ) (b : Bool) (x y : Act Outcome) → P (outcome x m) → P (outcome y m)
    → P (outcome (if b then x else y) m)
choice P m true x y p q = p
choice P m false x y p q = q

-- what a part of REV or REVW leaves
record Leaves (r : Regs) (t : Temps) (o : Outcome) : Type 0 where
  sums : o.temps ≡ t
  inside : o.end ≡ More → (has o.regs.ccr interrupts_masked ≡ has r.ccr interrupts_masked) × (o.regs.pc ≡ r.pc)

not_more : {A : Type 0} → Done ≡ More → A
not_more e = absurd (let f : Done ≡ More = e in cc)

met_leaves : (r : Regs) (t : Temps) (x : ℕ) (c : Ccr) (at : ℕ) (m : List ℕ)
    → has c interrupts_masked ≡ has r.ccr interrupts_masked
    → Leaves r t (outcome (met r (record r { x = x; ccr = c }) t at) m)
met_leaves r t x c at m e =
    choice (Leaves r t) m (has r.ccr overflow) _
    (leaving (record r { x = x; ccr = c; a = min (r.a) (get_or m at 0) }) t More)
    (record { sums = refl; inside = λ _. (e, refl) }) (record { sums = refl; inside = λ _. (e, refl) })

element_leaves : (r : Regs) (t : Temps) (x : ℕ) (c : Ccr) (stop separator e : ℕ) (turned : Act Outcome) (at : ℕ)
    (m : List ℕ) → has c interrupts_masked ≡ has r.ccr interrupts_masked → Leaves r t (outcome turned m)
    → Leaves r t (outcome (element r (record r { x = x; ccr = c }) t stop separator e turned at) m)
element_leaves r t x c stop separator e turned at m same leaves =
    let s : Regs = record r { x = x; ccr = c } in
    choice (Leaves r t) m (e == stop) (leaving (record s { pc = plus s.pc 2 }) t Done) _
    (record { sums = refl; inside = not_more })
    (choice (Leaves r t) m (e == separator) _ (met r s t at)
    (choice (Leaves r t) m (has r.ccr overflow)
    (leaving (record s { a = 255; ccr = put c overflow false }) t More) turned
    (record { sums = refl; inside = λ _. (same_put c false ∙ same, refl) }) leaves)
    (met_leaves r t x c at m same))

rev_leaves : (flags : ℕ) (r : Regs) (t : Temps) (e : ℕ) (m : List ℕ) → Leaves r t (outcome (rev_element flags r t e) m)
rev_leaves flags r t e m =
    let c = opened r.ccr hnzc flags in
    let same = same_opened r.ccr hnzc flags (masked_opened r.ccr hnzc flags (refl, refl) (refl, refl)) in
    element_leaves r t (plus r.x 1) c 255 254 e
    (leaving (record r { x = plus r.x 1; ccr = put c overflow true }) t More) (plus r.y e) m same
    (record { sums = refl; inside = λ _. (same_put c true ∙ same, refl) })

revw_leaves : (flags : ℕ) (r : Regs) (t : Temps) (e : ℕ) (m : List ℕ)
    → Leaves r t (outcome (revw_element flags r t e) m)
revw_leaves flags r t e m =
    let c = opened r.ccr hnz flags in
    let same = same_opened r.ccr hnz flags (masked_opened r.ccr hnz flags (refl, refl) (refl, refl)) in
    element_leaves r t (plus r.x 2) c 65535 65534 e _ e m same
    (choice (Leaves r t) m (has r.ccr carry) _
    (leaving (record r { x = plus r.x 2; ccr = put c overflow true }) t More)
    (record { sums = refl; inside = λ _. (same_put c true ∙ same, refl) })
    (record { sums = refl; inside = λ _. (same_put c true ∙ same, refl) }))

pub rev_goes_on : GoesOnAt own_address rev
rev_goes_on flags s = let l = rev_leaves flags s.regs s.temps (get_or s.mem s.regs.x 0) s.mem in l.inside

pub rev_sums : LeavesSums rev
rev_sums flags s = let l = rev_leaves flags s.regs s.temps (get_or s.mem s.regs.x 0) s.mem in l.sums

revw_here : (flags : ℕ) (s : State)
    → Leaves s.regs s.temps
    (outcome (revw_element flags s.regs s.temps
    (word_of (get_or s.mem s.regs.x 0) (get_or s.mem (plus s.regs.x 1) 0))) s.mem)
revw_here flags s = revw_leaves flags s.regs s.temps
    (word_of (get_or s.mem s.regs.x 0) (get_or s.mem (plus s.regs.x 1) 0)) s.mem

pub revw_goes_on : GoesOnAt own_address revw
revw_goes_on flags s = let l = revw_here flags s in l.inside

pub revw_sums : LeavesSums revw
revw_sums flags s = let l = revw_here flags s in l.sums

-- what a part of WAV leaves whose second byte stands at pc
record Adds (r : Regs) (pc : ℕ) (o : Outcome) : Type 0 where
  writes : o.writes ≡ []
  inside : o.end ≡ More → (has o.regs.ccr interrupts_masked ≡ has r.ccr interrupts_masked) × (o.regs.pc ≡ pc)

ended : (r s : Regs) (pc : ℕ) → Adds r pc (record { regs = s; temps = Free; writes = []; end = Done })
ended r s pc = record { writes = refl; inside = not_more }

adds : (flags : ℕ) (r : Regs) (p w pc : ℕ) (m : List ℕ) → Adds r pc (outcome (wav_from flags r p w pc) m)
adds flags r p w pc m =
    let u = get_or m r.x 0 in
    let v = get_or m r.y 0 in
    let p2 = (p + u * v) % 2 ^ 32 in
    let w2 = (w + v) % 2 ^ 16 in
    let same = same_opened r.ccr hnzvc flags (masked_opened r.ccr hnzvc flags (refl, refl) (refl, refl)) in
    let next : Regs = record r
    { x = plus r.x 1; y = plus r.y 1; b = r.b - 1; pc = pc; ccr = opened r.ccr hnzvc flags } in
    choice (Adds r pc) m (r.b == 0) (leaving (wav_end flags r p w pc) Free Done) _ (ended r (wav_end flags r p w pc) pc)
    (choice (Adds r pc) m (r.b == 1) (leaving (wav_end flags r p2 w2 pc) Free Done) (leaving next (Running p2 w2) More)
    (ended r (wav_end flags r p2 w2 pc) pc)
    (record { writes = refl; inside = λ _. (same, refl) }))

adds_by : (flags : ℕ) (r : Regs) (t : Temps) (m : List ℕ) → Adds r (second_byte t r.pc) (outcome (wav_act flags r t) m)
adds_by flags r Free m = adds flags r 0 0 (plus r.pc 1) m
adds_by flags r OnStack m = adds flags r 0 0 (plus r.pc 1) m
adds_by flags r (Running p w) m = adds flags r p w r.pc m

pub wav_goes_on : GoesOnAt second_byte wav
wav_goes_on flags s = let a = adds_by flags s.regs s.temps s.mem in a.inside

pub wav_writes : WritesNothing wav
wav_writes flags s = let a = adds_by flags s.regs s.temps s.mem in a.writes

-- what is pushed
pub pushes_running : PushesRunning
pushes_running s p w e = ap (λ (t : Temps). suspended wav (state_of s.regs t s.mem)) e

pub pushes_none : PushesNone
pushes_none s (inl e) =
    ap (λ (t : Temps). suspended wav (state_of s.regs t s.mem)) e ∙ ap (λ (t : Temps). state_of s.regs t s.mem) (sym e)
pushes_none s (inr e) =
    ap (λ (t : Temps). suspended wav (state_of s.regs t s.mem)) e ∙ ap (λ (t : Temps). state_of s.regs t s.mem) (sym e)

-- An accepted handler runs to its RTI.
use Rattle.handler_check.proofs.Words.{[], ◌++◌, ◌+◌, ◌<◌, ◌==◌, ◌∙◌, ◌∷◌, ◌≡◌, ◌≤◌, Agree, ap, applied, AreOpen}
use Rattle.handler_check.proofs.Words.{arith, bit, Bool, code_bytes, effect, false, false≢true, FitCode, FitsHeight}
use Rattle.handler_check.proofs.Words.{FitsOperands, get_or, HasCode, height_after, inl, inr, Instr, is_free}
use Rattle.handler_check.proofs.Words.{IsAccepted, IsAt, IsFrom, IsIn, IsOff, LdaaImmediate, leads, Left, length, List}
use Rattle.handler_check.proofs.Words.{May, Next, next_of, Ok, pairs_of, Path, Plain, Psha, Pula, refl, Result, Rti}
use Rattle.handler_check.proofs.Words.{size_of, StandsAt, State, subst, suc, sym, Temps, true, Write, write_all}
use Rattle.handler_check.proofs.Words.{written_by, zero, ℕ}
use Rattle.std.proofs.Common.{rules}
use Rattle.cpu12_isa.specs.declared.{instr.Regs.Regs, instr.Instr.TheVariants.JsrExtended, instr.Instr.TheVariants.Mem}
use Rattle.cpu12_isa.specs.{Plain.sp_behind, Plain.written_by as written_at}
use Rattle.handler_check.proofs.{Grounds.Grounds, Places.within, Back.ToRti}
use Rattle.handler_check.proofs.Decoding.{is_stepping, first_byte, plain_of, size_low, rti_or}
use Rattle.handler_check.proofs.Acts.{height_after-low, pc_leads, leads_on, keeps_of}
use Rattle.handler_check.proofs.Bytes.{under, IsFine, AllFine, fine_by, shadow, code_stays, write_append, open_append}

-- the state at a place, with h bytes pushed: base is SP without them, t the sums, x the X flag, m the memory with free
-- writes alone
pub record Stage (is : List Instr) (base : ℕ) (t : Temps) (x : Bool) (at h : ℕ) (s : State) (m : List ℕ) : Type 0 where
  pub pc : s.regs.pc ≡ at
  pub sp : s.regs.sp + h ≡ base
  pub temps : s.temps ≡ t
  pub flag : bit s.regs.ccr.0 6 ≡ x
  pub code : HasCode is s.mem
  pub mem : Agree (under base) s.mem m

-- the summary to the RTI
pub record Arrives (is : List Instr) (flags base : ℕ) (t : Temps) (x : Bool) (instrs n : ℕ) (s : State)
    (m : List ℕ) : Type 0 where
  pub steps : ℕ
  pub last : State
  pub goes : ToRti flags steps s last
  pub few : n + steps < instrs
  pub stands : StandsAt last.mem last.regs.pc Rti
  pub sp : last.regs.sp ≡ base
  pub temps : last.temps ≡ t
  pub flag : bit last.regs.ccr.0 6 ≡ x
  pub writes : List Write
  pub free : AreOpen is_free writes
  pub mem : Agree (under base) last.mem (write_all (pairs_of writes) m)

fits_at : (start : ℕ) (is : List Instr) (at : ℕ) (i : Instr) → FitCode is → IsFrom start is at i → FitsOperands i
fits_at start [] at i f w = absurd w
fits_at start (j ∷ js) at i f w =
    elim w [ inl e ↦ subst FitsOperands (sym e.1) f.0 | inr k ↦ fits_at (start + size_of j) js at i f.1 k ]

-- SP and the height
sp_goes : (base : ℕ) (i : Instr) (sp h : ℕ) → is_stepping i ≡ true → FitsHeight i h → 8175 ≤ base → base ≤ 8192
    → h ≤ 15 → sp + h ≡ base → sp_behind i sp + height_after i h ≡ base
sp_goes base (LdaaImmediate v) sp h p f lo hi l e = e
sp_goes base Psha sp h p f lo hi l e = omega arith
sp_goes base Pula sp h p f lo hi l e = omega arith
sp_goes base i sp h p f lo hi l e = search rules

-- what it writes is free or below SP
fine_at : (base : ℕ) (i : Instr) (r : Regs) (h : ℕ) → is_stepping i ≡ true
    → ((at : ℕ) → IsIn (written_by i) at → is_free at ≡ true) → FitsHeight i h → 8175 ≤ base → base ≤ 8192
    → r.sp + h ≡ base → (at : ℕ) → IsIn (written_at i r) at → IsFine base at
fine_at base (LdaaImmediate v) r h p f g lo hi e at w = absurd w
fine_at base Psha r h p f g lo hi e at w = elim w [ inl k ↦ inr (omega arith, omega arith) | inr k ↦ absurd k ]
fine_at base (JsrExtended to) r h p f g lo hi e at w = absurd (false≢true p)
fine_at base Mem r h p f g lo hi e at w = absurd (false≢true p)
fine_at base i r h p f g lo hi e at w = inl (f at w)

-- one step
record Onward (is : List Instr) (flags base : ℕ) (t : Temps) (x : Bool) (at h : ℕ) (i : Instr) (s : State)
    (m : List ℕ) : Type 0 where
  next : Next
  goes : next_of flags s ≡ Ok next
  byte : (get_or s.mem s.regs.pc 0 == 11) ≡ false
  writes : List Write
  free : AreOpen is_free writes
  leads : IsIn (leads at i) next.state.regs.pc
  stage : Stage is base t x next.state.regs.pc (height_after i h) next.state (write_all (pairs_of writes) m)

step_on : Grounds → (is : List Instr) (instrs flags base : ℕ) (t : Temps) (x : Bool) → IsAccepted is instrs → IsOff t
    → 8175 ≤ base → base ≤ 8192
    → (at h : ℕ) (i : Instr) (s : State) (m : List ℕ) → Stage is base t x at h s m → IsAt is at i → May i h → h ≤ 15
    → is_stepping i ≡ true → Onward is flags base t x at h i s m
step_on k is instrs flags base t x acc o lo hi at h i s m st w may low p =
    let stands : StandsAt s.mem s.regs.pc i = subst (λ (k : ℕ). StandsAt s.mem k i) (sym st.pc) (st.code at i w) in
    let off : IsOff s.temps = subst IsOff (sym st.temps) o in
    let step = k.plain_is_step flags i s off (k.decodes s.mem s.regs.pc i (fits_at 16384 is at i acc.fits w) stands)
    (plain_of i p) in
    let next : Next = record {
      state = record {
        regs = (effect flags i s.regs s.mem).regs;
        temps = s.temps;
        mem =
            write_all (effect flags i s.regs s.mem).writes s.mem;
      };
      kind = Plain;
    } in
    let r = within 16384 is at i w in
    let ends = acc.ends in
    let size = size_low i in
    let under : at < 20480 = omega (arith, r.1, size.0) in
    let left = k.leaves flags i s.regs s.mem (plain_of i p) in
    let fine : AllFine base (effect flags i s.regs s.mem).writes =
    fine_by base (effect flags i s.regs s.mem).writes
    (λ a k. fine_at base i s.regs h p may.free may.height lo hi st.sp a
    (subst (λ (l : List ℕ). IsIn l a) left.writes k)) in
    let sh = shadow k.writes_agree base (effect flags i s.regs s.mem).writes s.mem m st.mem fine in
    record {
      next = next;
      goes = ap (λ (o : Result Left ℕ). applied o s.mem) step.0;
      byte = first_byte s.mem s.regs.pc i p stands;
      writes = sh.writes;
      free = sh.free;
      leads = pc_leads k.leaves flags i s.regs s.mem at p may.forward st.pc under;
      stage = record {
        pc = refl;
        sp = ap (λ (k : ℕ). k + height_after i h) left.sp
            ∙ sp_goes base i s.regs.sp h p may.height lo hi low st.sp;
        temps = st.temps;
        flag = left.x (keeps_of i p) ∙ st.flag;
        code = code_stays base (effect flags i s.regs s.mem).writes s.mem is hi fine acc.ends st.code;
        mem = sh.mem;
      };
    }

here : (is : List Instr) (instrs flags base : ℕ) (t : Temps) (x : Bool) (n at h : ℕ) (i : Instr) (s : State)
    (m : List ℕ) → IsAccepted is instrs → Path is n at h → Stage is base t x at h s m → IsAt is at i → May i h → i ≡ Rti
    → Arrives is flags base t x instrs n s m
here is instrs flags base t x n at h i s m acc path st w may rti =
    let none : h ≡ 0 = subst (λ (j : Instr). FitsHeight j h) rti may.height in
    let most : suc n ≤ instrs = acc.most n at h path (subst (λ (j : Instr). IsAt is at j) rti w) in
    let sp = st.sp in
    record {
      steps = 0;
      last = s;
      goes = refl;
      few = omega arith;
      stands = subst (λ (k : ℕ). StandsAt s.mem k Rti) (sym st.pc)
          (st.code at Rti (subst (λ (j : Instr). IsAt is at j) rti w));
      sp = omega arith;
      temps = st.temps;
      flag = st.flag;
      writes = [];
      free = tt;
      mem = st.mem;
    }

then_on : (is : List Instr) (instrs flags base : ℕ) (t : Temps) (x : Bool) (n at h : ℕ) (i : Instr) (s : State)
    (m : List ℕ) (o : Onward is flags base t x at h i s m)
    → Arrives is flags base t x instrs (suc n) o.next.state (write_all (pairs_of o.writes) m)
    → Arrives is flags base t x instrs n s m
then_on is instrs flags base t x n at h i s m o a =
    let few = a.few in
    record {
      steps = suc a.steps;
      last = a.last;
      goes = (o.byte, (o.next, (o.goes, a.goes)));
      few = omega arith;
      stands = a.stands;
      sp = a.sp;
      temps = a.temps;
      flag = a.flag;
      writes = o.writes ++ a.writes;
      free = open_append o.writes a.writes o.free a.free;
      mem = subst (λ (l : List ℕ). Agree (under base) a.last.mem l) (write_append o.writes a.writes m) a.mem;
    }

pub arrives : Grounds → (is : List Instr) (instrs flags base : ℕ) (t : Temps) (x : Bool) → IsAccepted is instrs
    → IsOff t → 8175 ≤ base → base ≤ 8192
    → (left n at h : ℕ) (s : State) (m : List ℕ) → 16384 + length (code_bytes is) ≤ at + left → Path is n at h → h ≤ 15
    → Stage is base t x at h s m → Arrives is flags base t x instrs n s m
arrives k is instrs flags base t x acc o lo hi zero n at h s m l path low st =
    let found = acc.stands n at h path in
    let r = within 16384 is at found.0 found.1 in
    let size = size_low found.0 in
    absurd (omega (arith, r.1, size.0))
arrives k is instrs flags base t x acc o lo hi (suc left) n at h s m l path low st =
    let found = acc.stands n at h path in
    let i : Instr = found.0 in
    let may = acc.may n at h found.0 path found.1 in
    elim (rti_or found.0 may.allowed) [
      | inl rti ↦ here is instrs flags base t x n at h found.0 s m acc path st found.1 may rti
      | inr p ↦ (let on = step_on k is instrs flags base t x acc o lo hi at h found.0 s m st found.1 may low p in
          let size = size_low found.0 in
          let further : at < on.next.state.regs.pc = leads_on found.0 at on.next.state.regs.pc size.0 on.leads in
          then_on is instrs flags base t x n at h found.0 s m on
          (arrives k is instrs flags base t x acc o lo hi left (suc n) on.next.state.regs.pc
          (height_after found.0 h) on.next.state (write_all (pairs_of on.writes) m) (omega arith)
          (at, h, found.0, (path, found.1, on.leads, refl)) (height_after-low found.0 h may.height low) on.stage))
    ]

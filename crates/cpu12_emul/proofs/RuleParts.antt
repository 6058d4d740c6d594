-- Parts of REV and REVW that go on, and leave the instruction where it stands, are steps.
use Rattle.std.proofs.Common.{◌≡◌, ◌≢◌, ◌==◌, ℕ, ◌+◌, min, max, Bool, true, false, Result, Ok, List, [], ◌∷◌}
use Rattle.std.proofs.Common.{get_or, get_or-set_other, refl, ap, sym, ◌∙◌, subst}
use Rattle.std.specs.Prelude.{if◌then◌else◌}
use Rattle.std.proofs.lemmas.Bool.{eqb-true}
use Rattle.cpu12_isa.specs.declared.{instr.Regs.Regs, instr.Instr.Instr}
use Rattle.cpu12_isa.specs.Flags.{has, put, opened, carry, overflow, hnzc, hnz}
use Rattle.cpu12_isa.specs.Memory.{plus, word_of, bytes_at}
use Rattle.cpu12_isa.specs.declared.instr.Instr.TheVariants.{Rev, Revw}
use Rattle.cpu12_isa.specs.{Act.Act, Act.outcome, Act.write_all, Code.decode_at, Code.decode_of}
use Rattle.cpu12_parts.specs.declared.{temps.Temps.Temps, temps.PartEnd.PartEnd}
use Rattle.cpu12_parts.specs.Parts.{Kind, rev, revw, part_of, after_part, leaving, met, element, rev_element}
use Rattle.cpu12_parts.specs.Parts.{revw_element}
use Rattle.cpu12_parts.specs.Laws.{IsOff, IsSteady, Any, state_of}
use Rattle.cpu12_parts.specs.declared.temps.PartEnd.TheVariants.{More, Done}
use Rattle.cpu12_parts.specs.{Inside.own_address, Inside.GoesOnAt, Inside.LeavesSums, State.State, State.Outcome}
use Rattle.cpu12_emul.specs.declared.ends.Stepped.TheVariants.{Part}
use Rattle.cpu12_emul.specs.Ruling.{Stands, GoesOnBeside, RevGoesOn, RevwGoesOn, Ruled, RulesWhere}
use Rattle.cpu12_emul.specs.{Simulation.PartIsStep, Step.Left, Step.kind_of, Step.applied, Step.next_of}
use Rattle.cpu12_emul.specs.{Run.PartsTo, Step.Whole}
use Rattle.cpu12_emul.proofs.{Runs.PartsTo-append, Stepping.rev_is_step, Stepping.revw_is_step}

-- The part goes on, and writes at most the byte at one address.
record Passes (at : ℕ) (m : List ℕ) (o : Outcome) : Type 0 where
  end : o.end ≡ More
  others : (k : ℕ) → k ≢ at → get_or (write_all o.writes m) k 0 ≡ get_or m k 0

-- a choice between two acts
choice : (P : Outcome → Type 0) (m : List ℕ) (b : Bool) (x y : Act Outcome) → (b ≡ true → P (outcome x m))
    → P (outcome y m)
    → P (outcome (if b then x else y) m)
choice P m true x y p q = p refl
choice P m false x y p q = q

passes_leaving : (at : ℕ) (m : List ℕ) (r : Regs) (t : Temps) → Passes at m (outcome (leaving r t More) m)
passes_leaving at m r t = record { end = refl; others = λ k ne. refl }

met_passes : (s r : Regs) (t : Temps) (at : ℕ) (m : List ℕ) → Passes at m (outcome (met s r t at) m)
met_passes s r t at m =
    choice (Passes at m) m (has s.ccr overflow) _ (leaving (record r { a = min s.a (get_or m at 0) }) t More)
    (λ _. record { end = refl; others = λ k ne. get_or-set_other m at k (max (get_or m at 0) s.a) 0 ne })
    (passes_leaving at m (record r { a = min s.a (get_or m at 0) }) t)

not_stop : (P : Type 0) (e stop : ℕ) → e ≢ stop → (e == stop) ≡ true → P
not_stop P e stop ne eq = absurd (ne (eqb-true e stop eq))

element_passes : (s r : Regs) (t : Temps) (stop separator e : ℕ) (turned : Act Outcome) (at : ℕ) (m : List ℕ)
    → e ≢ stop → Passes at m (outcome turned m)
    → Passes at m (outcome (element s r t stop separator e turned at) m)
element_passes s r t stop separator e turned at m ne passes =
    let first : Regs = record r { a = 255; ccr = put r.ccr overflow false } in
    choice (Passes at m) m (e == stop) (leaving (record r { pc = plus r.pc 2 }) t Done) _ (not_stop _ e stop ne)
    (choice (Passes at m) m (e == separator) _ (met s r t at)
    (λ _. choice (Passes at m) m (has s.ccr overflow) (leaving first t More) turned
    (λ _. passes_leaving at m first t) passes)
    (met_passes s r t at m))

rev_passes : (flags : ℕ) (r : Regs) (t : Temps) (e : ℕ) (m : List ℕ) → e ≢ 255
    → Passes (plus r.y e) m (outcome (rev_element flags r t e) m)
rev_passes flags r t e m ne =
    let s : Regs = record r { x = plus r.x 1; ccr = opened r.ccr hnzc flags } in
    let turned : Regs = record s { ccr = put s.ccr overflow true } in
    element_passes r s t 255 254 e (leaving turned t More) (plus r.y e) m ne (passes_leaving (plus r.y e) m turned t)

revw_passes : (flags : ℕ) (r : Regs) (t : Temps) (e : ℕ) (m : List ℕ) → e ≢ 65535
    → Passes e m (outcome (revw_element flags r t e) m)
revw_passes flags r t e m ne =
    let s : Regs = record r { x = plus r.x 2; ccr = opened r.ccr hnz flags } in
    let turned : Regs = record s { ccr = put s.ccr overflow true } in
    element_passes r s t 65535 65534 e _ e m ne
    (choice (Passes e m) m (has r.ccr carry) _ (leaving turned t More)
    (λ _. record { end = refl; others = λ k n. refl }) (passes_leaving e m turned t))

-- The part goes on, and leaves the two bytes at PC.
pub record Keeps (pc : ℕ) (m : List ℕ) (o : Outcome) : Type 0 where
  pub end : o.end ≡ More
  pub prebyte : get_or (write_all o.writes m) pc 0 ≡ get_or m pc 0
  pub code : get_or (write_all o.writes m) (plus pc 1) 0 ≡ get_or m (plus pc 1) 0

keeps_beside : (stop e at pc : ℕ) (m : List ℕ) (o : Outcome) → GoesOnBeside stop e at pc → Passes at m o → Keeps pc m o
keeps_beside stop e at pc m o beside passes = record {
  end = passes.end;
  prebyte = passes.others pc beside.first;
  code = passes.others (plus pc 1) beside.second;
}

rev_keeps : (flags : ℕ) (s : State) → RevGoesOn s.mem s.regs → Keeps s.regs.pc s.mem (part_of rev flags s)
rev_keeps flags s on =
    let e : ℕ = get_or s.mem s.regs.x 0 in
    keeps_beside 255 e (plus s.regs.y e) s.regs.pc s.mem (part_of rev flags s) on
    (rev_passes flags s.regs s.temps e s.mem on.goes_on)

revw_keeps : (flags : ℕ) (s : State) → RevwGoesOn s.mem s.regs → Keeps s.regs.pc s.mem (part_of revw flags s)
revw_keeps flags s on =
    let e : ℕ = word_of (get_or s.mem s.regs.x 0) (get_or s.mem (plus s.regs.x 1) 0) in
    keeps_beside 65535 e e s.regs.pc s.mem (part_of revw flags s) on
    (revw_passes flags s.regs s.temps e s.mem on.goes_on)

decoded_by : (i : Instr) (opcode : ℕ) → ((rest : List ℕ) → decode_of (0x18 ∷ opcode ∷ rest) ≡ Ok i)
    → (mem : List ℕ) (pc : ℕ) → Stands opcode pc mem → decode_at mem pc ≡ Ok i
decoded_by i opcode is mem pc s =
    let rest : List ℕ = bytes_at mem (plus pc 2 ∷ plus pc 3 ∷ plus pc 4 ∷ plus pc 5 ∷ []) in
    ap (λ (b : ℕ). decode_of (b ∷ get_or mem (plus pc 1) 0 ∷ rest)) s.prebyte
    ∙ ap (λ (b : ℕ). decode_of (0x18 ∷ b ∷ rest)) s.code ∙ is rest

-- one part of an instruction in parts that stays at PC, and keeps its bytes where a part goes on
Ruled-one : (i : Instr) (k : Kind) (opcode : ℕ) (LeavesItself : List ℕ → Regs → Type 0) → PartIsStep i k
    → ((rest : List ℕ) → decode_of (0x18 ∷ opcode ∷ rest) ≡ Ok i)
    → ((flags : ℕ) (s : State) → LeavesItself s.mem s.regs → Keeps s.regs.pc s.mem (part_of k flags s))
    → GoesOnAt own_address k → LeavesSums k → IsSteady k Any → RulesWhere k opcode LeavesItself
Ruled-one i k opcode LeavesItself is_step is keeps stays sums steady flags s on off stands =
    let t : State = after_part k flags s in
    let kept = keeps flags s on in
    let step : next_of flags s ≡ Ok (record { state = t; kind = Part }) =
    ap (λ (l : Result Left ℕ). applied l s.mem) (is_step flags s off (decoded_by i opcode is s.mem s.regs.pc stands)).0
    ∙ ap (λ (end : PartEnd). Ok (record { state = t; kind = kind_of end })) kept.end in
    let pc : t.regs.pc ≡ s.regs.pc = (stays flags s kept.end).1 in
    let sp : t.regs.sp ≡ s.regs.sp = steady.stack flags s in
    record {
      parts = (t, (step, (pc, sp), refl));
      pc = pc;
      sp = sp;
      temps = sums flags s;
      stands = record { prebyte = kept.prebyte ∙ stands.prebyte; code = kept.code ∙ stands.code };
    }

pub rev_rules : GoesOnAt own_address rev → LeavesSums rev → IsSteady rev Any → RulesWhere rev 0x3A RevGoesOn
rev_rules = Ruled-one Rev rev 0x3A RevGoesOn rev_is_step (λ rest. refl) rev_keeps

pub revw_rules : GoesOnAt own_address revw → LeavesSums revw → IsSteady revw Any → RulesWhere revw 0x3B RevwGoesOn
revw_rules = Ruled-one Revw revw 0x3B RevwGoesOn revw_is_step (λ rest. refl) revw_keeps

-- one part that goes on, by what it leaves
pub Ruled-part : (k : Kind) (opcode : ℕ) (LeavesItself : List ℕ → Regs → Type 0) (flags : ℕ) (s : State) (r : Regs)
    (mem : List ℕ)
    → RulesWhere k opcode LeavesItself → LeavesItself s.mem s.regs → r ≡ (part_of k flags s).regs
    → mem ≡ write_all (part_of k flags s).writes s.mem
    → IsOff s.temps → Stands opcode s.regs.pc s.mem → Ruled opcode flags s (state_of r s.temps mem) 1
Ruled-part k opcode LeavesItself flags s r mem rules on regs writes off stands =
    let o : Outcome = part_of k flags s in
    let one = rules flags s on off stands in
    let is : after_part k flags s ≡ state_of r s.temps mem =
    ap (λ (q : Regs). state_of q o.temps (write_all o.writes s.mem)) (sym regs)
    ∙ ap (λ (t : Temps). state_of r t (write_all o.writes s.mem)) one.temps
    ∙ ap (λ (m : List ℕ). state_of r s.temps m) (sym writes) in
    subst (λ (t : State). Ruled opcode flags s t 1) is one

-- parts, and then further ones
pub Ruled-then : (opcode flags : ℕ) (s t u : State) (n k : ℕ) → IsOff s.temps → Ruled opcode flags s t n
    → (IsOff t.temps → Stands opcode t.regs.pc t.mem → Ruled opcode flags t u k) → Ruled opcode flags s u (n + k)
Ruled-then opcode flags s t u n k off is further =
    let more : Ruled opcode flags t u k =
    further (subst IsOff (sym is.temps) off) (subst (λ (p : ℕ). Stands opcode p t.mem) (sym is.pc) is.stands) in
    record {
      parts = PartsTo-append (λ v. (v.regs.pc ≡ s.regs.pc) × (v.regs.sp ≡ s.regs.sp))
          (λ v. (v.regs.pc ≡ t.regs.pc) × (v.regs.sp ≡ t.regs.sp))
          (λ v at. (at.0 ∙ is.pc, at.1 ∙ is.sp)) flags n k s t u is.parts more.parts;
      pc = more.pc ∙ is.pc;
      sp = more.sp ∙ is.sp;
      temps = more.temps ∙ is.temps;
      stands = subst (λ (p : ℕ). Stands opcode p u.mem) is.pc more.stands;
    }

-- from the machine that is seen
pub PartsTo-viewed : (v w : Whole) (n : ℕ) (t : State) → w ≡ v
    → PartsTo (λ s. (s.regs.pc ≡ w.state.regs.pc) × (s.regs.sp ≡ w.state.regs.sp)) w.flags n w.state t
    → PartsTo (λ s. (s.regs.pc ≡ v.state.regs.pc) × (s.regs.sp ≡ v.state.regs.sp)) v.flags n v.state t
PartsTo-viewed v w n t is parts = subst
    (λ (x : Whole). PartsTo (λ s. (s.regs.pc ≡ x.state.regs.pc) × (s.regs.sp ≡ x.state.regs.sp)) x.flags n x.state t)
    is parts

-- A boundary of a turn, and its next step.
use Rattle.mailbox_runs.proofs.Words.{[], ◌&&◌, ◌++◌, ◌+◌, ◌-◌, ◌<◌, ◌∙◌, ◌∷◌, ◌≡◌, ◌≢◌, Agree, AllShown}
use Rattle.mailbox_runs.proofs.Words.{ap, applied, AreOfSize, AreSumsReady, arith, asked, before_rest, Bool, drop}
use Rattle.mailbox_runs.proofs.Words.{End, Execution, false, Firmware, FrameSeen, Free, has, HasRoom, inl, Instr}
use Rattle.mailbox_runs.proofs.Words.{interrupts_masked, is_free, is_hidden, is_mail, is_postable, IsBox}
use Rattle.mailbox_runs.proofs.Words.{IsMaskedStep, IsPlainStep, IsShownStep, Left, length, List, map-append}
use Rattle.mailbox_runs.proofs.Words.{may_interrupt, nat_le, nat_lt, nat_tests, Next, next_of, not, Ok, or_parts}
use Rattle.mailbox_runs.proofs.Words.{outcome, Plain, PlainStepLaws, Post, Ran, refl, Regs, Result, run_from, Same}
use Rattle.mailbox_runs.proofs.Words.{six_from, State, step_act, subst, suc, sym, takes, Taking, TakingLaws, Temps}
use Rattle.mailbox_runs.proofs.Words.{true, turn_form, TurnEnds, TurnForm, write_all, zero, ℕ}
use Rattle.cpu12_isa.specs.{Act.read_by, Agreement.Uncovers}
use Rattle.run_law.specs.{Forms.ended}
use Rattle.firmware_code.specs.Interruptible.{IsSteady, IsShownPlain}
use Rattle.firmware_code.proofs.Algebra.{in_room}
use Rattle.std.specs.Prelude.{◌==◌}
use Rattle.cpu12_isa.specs.Meaning.{Effect, effect, plain_act}
use Rattle.cpu12_isa.proofs.Algebra.{shown_append}
use Rattle.mailbox_runs.proofs.Posting.{took_none}

abbrev pub plainly : State → Result Next ℕ
plainly u = Ok (record { state = u; kind = Plain })

-- a plain instruction that writes nothing does the same on memory that agrees where it reads
pub quiet_plain : PlainStepLaws → (flags : ℕ) (hidden : ℕ → Bool) (i : Instr) (y t v : State) → y.temps ≡ Free
    → IsPlainStep flags i y t
    → (effect flags i y.regs y.mem).writes ≡ [] → AllShown hidden (six_from y.regs.pc)
    → AllShown hidden (read_by (plain_act flags i y.regs) y.mem)
    → v.regs ≡ y.regs → v.temps ≡ y.temps → Agree hidden v.mem y.mem
    → next_of flags v ≡ plainly (record t { mem = v.mem })
quiet_plain laws flags hidden i y t v free p none code reads er et a =
    let e : Effect = effect flags i y.regs y.mem in
    let is = laws.plain_is_step flags i y (inl free) p.decoded p.plain in
    let left : Left = record { regs = e.regs; temps = y.temps; writes = e.writes; kind = Plain } in
    let shown = subst (AllShown hidden) (sym is.1)
    (shown_append hidden (six_from y.regs.pc) (read_by (plain_act flags i y.regs) y.mem) code reads) in
    let both = laws.step_agrees flags y.regs y.temps v.mem y.mem left hidden hidden a shown is.0 (λ at h. inl h) in
    ap (λ (r : Regs). applied (outcome (step_act flags r v.temps) v.mem) v.mem) er
    ∙ ap (λ (u : Temps). applied (outcome (step_act flags y.regs u) v.mem) v.mem) et
    ∙ ap (λ (o : Result Left ℕ). applied o v.mem) both.0
    ∙ ap (λ (ws : List (ℕ × ℕ)). plainly (record { regs = e.regs; temps = y.temps; mem = write_all ws v.mem })) none
    ∙ ap (λ (u : State). plainly (record u { mem = v.mem })) (sym p.after)

-- what is shown where the mailbox is open is shown where it is not
pub less_hidden : (sp at : ℕ) → is_hidden is_postable sp at ≡ false → is_hidden is_free sp at ≡ false
less_hidden sp at h =
    let p = or_parts (is_postable at) (nat_le 0x1FE0 at && nat_lt at sp) h in
    let f = or_parts (is_free at) (is_mail at) p.0 in
    rw (f.0, p.1) refl

pub shown_weaker : (a b : ℕ → Bool) (ats : List ℕ) → ((at : ℕ) → a at ≡ false → b at ≡ false) → AllShown a ats
    → AllShown b ats
shown_weaker a b [] h s = tt
shown_weaker a b (at ∷ ats) h s = (h at s.0, shown_weaker a b ats h s.1)

pub room_of : (masked : Bool) (image : List ℕ) (s : State) → IsSteady is_postable masked image s → HasRoom s
room_of masked image s h = let near = in_room s.regs.sp h.stack in
    record { size = h.size; fits = h.fits; low = near.0; high = near.1 }

-- a step that reads what is shown
shown_plain : PlainStepLaws → (masked : Bool) (image : List ℕ) (flags : ℕ) (i : Instr) (s t : State)
    → IsSteady is_postable masked image s
    → IsShownPlain is_free flags i s t → IsShownStep is_free flags s
shown_plain laws masked image flags i s t h k =
    let hidden = is_hidden is_free s.regs.sp in
    let e : Effect = effect flags i s.regs s.mem in
    let p = k.step in
    let is = laws.plain_is_step flags i s (inl h.temps) p.decoded p.plain in
    let code = shown_weaker (is_hidden is_postable s.regs.sp) hidden (six_from s.regs.pc)
    (λ at x. less_hidden s.regs.sp at x) h.code in
    record {
      left = record { regs = e.regs; temps = s.temps; writes = e.writes; kind = Plain };
      goes = is.0;
      reads = subst (AllShown hidden) (sym is.1)
          (shown_append hidden (six_from s.regs.pc) (read_by (plain_act flags i s.regs) s.mem) code k.reads);
      covers = subst (λ (u : State). Uncovers hidden e.writes (is_hidden is_free u.regs.sp)) p.after k.uncovers;
      room = room_of masked image s h;
      sums = subst (λ (u : Temps). AreSumsReady is_free s u) (sym h.temps) tt;
    }

-- the same state but for the free bytes steps alike
pub record Goes (flags : ℕ) (v t : State) : Type 0 where
  pub next : State
  pub goes : next_of flags v ≡ plainly next
  pub same : Same is_free next t

pub plain_follows : PlainStepLaws → (masked : Bool) (image : List ℕ) (flags : ℕ) (i : Instr) (s t v : State)
    → IsSteady is_postable masked image s
    → IsShownPlain is_free flags i s t → Same is_free v s → Goes flags v t
plain_follows laws masked image flags i s t v h k l =
    let both = laws.step_keeps is_free flags v s (inl l) (shown_plain laws masked image flags i s t h k) in
    let there = sym both.uninterrupted ∙ laws.plain_is_one_step flags i s t h.temps k.step in
    let goal : both.goal ≡ record { state = t; kind = Plain } = cc in
    record {
      next = both.next.state;
      goes = both.goes ∙ ap (λ (k : _). Ok (record { state = both.next.state; kind = k }))
          (both.kind ∙ ap (λ (x : Next). x.kind) goal);
      same = subst (λ (x : Next). Same is_free both.next.state x.state) goal both.same;
    }

-- ---- the rest of a run

-- one plain step more
pub pass : (form : TurnForm) (k m n c res : ℕ) (qs ts l : List Post) (fs : List (ℕ × FrameSeen)) (v t : State)
    (z : End) → form.ends m v ≡ false
    → next_of form.flags (takes form m qs v).state ≡ plainly t
    → TurnEnds (run_from form k (suc m) false (takes form m qs v).left t) n c res fs ts l z
    → TurnEnds (run_from form (suc k) m false qs v) (suc n) (suc c) res ((takes form m qs v).frames ++ fs)
    (asked (takes form m qs v).told ++ ts) l z
unfolding run_from
pass form k m n c res qs ts l fs v t z on next r =
    let b = takes form m qs v in
    let rest = run_from form k (suc m) false b.left t in
    let is : run_from form (suc k) m false qs v ≡ before_rest false b Plain rest = rw on (rw next refl) in
    subst (λ (x : Ran Post (Unit {0})). TurnEnds x (suc n) (suc c) res (b.frames ++ fs) (asked b.told ++ ts) l z)
    (sym is) (record {
      arrived = r.arrived;
      steps = ap suc r.steps;
      instrs_are = (let e = r.instrs_are in omega arith);
      resumed_is = (let e = r.resumed_is in omega arith);
      frames_are = ap (λ (x : List (ℕ × FrameSeen)). b.frames ++ x) r.frames_are;
      told_is = map-append (λ (x : Post × Unit {0}). x.0) b.told rest.told
          ∙ ap (λ (x : List Post). asked b.told ++ x) r.told_is;
      left_is = r.left_is;
      state = r.state;
      late = (let e = r.late in omega arith);
      states_are = ap (λ (x : ℕ). drop x (b.state ∷ rest.states))
          (let e = r.late in let x : suc n - z.steps ≡ suc (n - z.steps) = omega arith in x) ∙ r.states_are;
    })

-- the end
abbrev pub at_once : State → End
at_once v = record { state = v; steps = 0; states = v ∷ [] }

pub pass_end : (form : TurnForm) (k m : ℕ) (qs : List Post) (v : State) → form.ends m v ≡ true
    → TurnEnds (run_from form k m false qs v) 0 0 0 [] [] qs (at_once v)
unfolding run_from
pass_end form zero m qs v e =
    record {
      arrived = e;
      steps = refl;
      instrs_are = refl;
      resumed_is = refl;
      frames_are = refl;
      told_is =
          refl;
      left_is = refl;
      state = refl;
      late = omega arith;
      states_are = refl;
    }
pass_end form (suc k) m qs v e =
    let is : run_from form (suc k) m false qs v ≡ ended true qs v = rw e refl in
    subst (λ (x : Ran Post (Unit {0})). TurnEnds x 0 0 0 [] [] qs (at_once v)) (sym is)
    (record {
      arrived = refl;
      steps = refl;
      instrs_are = refl;
      resumed_is = refl;
      frames_are = refl;
      told_is =
          refl;
      left_is = refl;
      state = refl;
      late = omega arith;
      states_are = refl;
    })

-- ---- while I is 1

away_false : (b : Bool) (pc wait : ℕ) → pc ≢ wait → (b && (pc == wait)) ≡ false
away_false true pc wait h = grind (arith, nat_tests)
away_false false pc wait h = refl

pub ends_there : (g m pc wait : ℕ) → g < m → pc ≡ wait → (nat_lt g m && (pc == wait)) ≡ true
ends_there g m pc wait lt e =
    let a : nat_lt g m ≡ true = grind (arith, nat_tests) in
    let b : (pc == wait) ≡ true = grind (arith, nat_tests) in
    rw (a, b) refl

pub not_over : (flags : ℕ) (f : Firmware) (samples : List (List ℕ)) (g m : ℕ) (v : State)
    → v.regs.pc ≢ f.memory_map.wait
    → (turn_form flags f samples g).ends m v ≡ false
not_over flags f samples g m v h = away_false (nat_lt g m) v.regs.pc f.memory_map.wait h

pub record Masked (flags : ℕ) (f : Firmware) (samples : List (List ℕ)) (g j m : ℕ) (qs : List Post)
    (v t : State) : Type 0 where
  pub next : State
  pub same : Same is_free next t
  pub on : (k n c res : ℕ) (ts l : List Post) (fs : List (ℕ × FrameSeen)) (z : End)
      → TurnEnds (run_from (turn_form flags f samples g) k (m + j) false qs next) n c res fs ts l z
      → TurnEnds (run_from (turn_form flags f samples g) (j + k) m false qs v) (j + n) (j + c) res fs ts l z

pub masked_run : PlainStepLaws → (flags : ℕ) (f : Firmware) (samples : List (List ℕ)) (n g : ℕ) → IsBox f.memory_map n
    → AreOfSize n samples → TakingLaws → (image : List ℕ) (ds : List ℕ) (m : ℕ) (qs : List Post) (s t v : State)
    → Execution (IsMaskedStep f.memory_map image flags) ds s t → Same is_free v s
    → Masked flags f samples g (length ds) m qs v t
masked_run steps flags f samples n g box size laws image [] m qs s t v e l = record {
  next = v;
  same = subst (λ (u : State). Same is_free v u) e l;
  on = λ k n2 c res ts l2 fs z r.
      (let a : m + 0 ≡ m = omega arith in
      let b : k ≡ 0 + k = omega arith in
      let d : n2 ≡ 0 + n2 = omega arith in
      let e2 : c ≡ 0 + c = omega arith in
      subst (λ (x : ℕ). TurnEnds (run_from (turn_form flags f samples g) x m false qs v) (0 + n2)
      (0 + c) res fs ts l2 z) b
      (subst (λ (x : ℕ). TurnEnds (run_from (turn_form flags f samples g) k m false qs v) x (0 + c) res fs ts l2 z) d
      (subst (λ (x : ℕ). TurnEnds (run_from (turn_form flags f samples g) k m false qs v) n2 x res fs ts l2 z) e2
      (subst (λ (x : ℕ). TurnEnds (run_from (turn_form flags f samples g) k x false qs v) n2 c res fs ts l2 z) a r))));
}
masked_run steps flags f samples n g box size laws image (d ∷ ds) m qs s t v e l =
    let form : TurnForm = turn_form flags f samples g in
    let h = e.1.0 in
    let steady = h.steady in
    let may : may_interrupt v ≡ false = ap (λ (x : Regs). not (has x.ccr interrupts_masked)) l.regs
    ∙ ap not steady.mask in
    let none : takes form m qs v ≡ record { state = v; frames = []; told = []; left = qs } =
    took_none laws flags f samples n g box size m qs v may in
    let one = plain_follows steps true image flags h.instruction s e.0 v h.steady h.shown l in
    let rest = masked_run steps flags f samples n g box size laws image ds (suc m) qs e.0 t one.next e.1.1 one.same in
    let away : v.regs.pc ≢ f.memory_map.wait = λ z. h.away (sym (ap (λ (x : Regs). x.pc) l.regs) ∙ z) in
    record {
      next = rest.next;
      same = rest.same;
      on = λ k n2 c res ts l2 fs z r.
          (let a : m + suc (length ds) ≡ suc m + length ds = omega arith in
          let r2 = rest.on k n2 c res ts l2 fs z
          (subst (λ (x : ℕ). TurnEnds (run_from form k x false qs rest.next) n2 c res fs ts l2 z) a r) in
          let r3 = pass form (length ds + k) m (length ds + n2) (length ds + c) res qs ts l2 fs v one.next z
          (not_over flags f samples g m v away)
          (ap (λ (b : Taking Post (Unit {0})). next_of flags b.state) none ∙ one.goes)
          (subst (λ (b : Taking Post (Unit {0})). TurnEnds (run_from form (length ds + k) (suc m) false b.left one.next)
          (length ds + n2) (length ds + c) res fs ts l2 z) (sym none) r2) in
          let r4 = subst (λ (b : Taking Post (Unit {0})). TurnEnds (run_from form (suc (length ds + k)) m false qs v)
          (suc (length ds + n2)) (suc (length ds + c)) res (b.frames ++ fs) (asked b.told ++ ts) l2 z) none r3 in
          let x1 : suc (length ds + k) ≡ suc (length ds) + k = omega arith in
          let x2 : suc (length ds + n2) ≡ suc (length ds) + n2 = omega arith in
          let x3 : suc (length ds + c) ≡ suc (length ds) + c = omega arith in
          subst (λ (x : ℕ). TurnEnds (run_from form x m false qs v) (suc (length ds) + n2)
          (suc (length ds) + c) res fs ts l2 z) x1
          (subst (λ (x : ℕ). TurnEnds (run_from form (suc (length ds + k)) m false qs v) x
          (suc (length ds) + c) res fs ts l2 z) x2
          (subst (λ (x : ℕ). TurnEnds (run_from form (suc (length ds + k)) m false qs v)
          (suc (length ds + n2)) x res fs ts l2 z) x3 r4)));
    }

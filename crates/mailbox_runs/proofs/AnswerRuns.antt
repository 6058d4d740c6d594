-- A turn that answers, under posts.
use Rattle.mailbox_runs.proofs.Words.{[], ◌&&◌, ◌*◌, ◌++◌, ◌+◌, ◌-◌, ◌<◌, ◌∙◌, ◌∷◌, ◌≡◌, ◌≤◌, Agree, agree_self}
use Rattle.mailbox_runs.proofs.Words.{agree_with, AllGood, AllSimulate, ap, AreOfSize, arith, Ascend, asked, behind}
use Rattle.mailbox_runs.proofs.Words.{Bool, cases_lt, counted, drop, End, FactsBeside, false, Firmware, frames_after}
use Rattle.mailbox_runs.proofs.Words.{frames_from, FrameSeen, get_or, HoldsMail, image_memory, inl, inr, is_free}
use Rattle.mailbox_runs.proofs.Words.{is_hidden, is_inside, is_mail, is_postable, IsAnswerRun, IsAt, IsBox}
use Rattle.mailbox_runs.proofs.Words.{IsGoodPost, length, List, mailed, map, max, nat_le, nat_lt, None, not, not_mail}
use Rattle.mailbox_runs.proofs.Words.{OnStackOnly, or_parts, Orcc, part_form, places, plain_frame, Post, posted}
use Rattle.mailbox_runs.proofs.Words.{posted_by, Ran, ran_from, refl, Regs, resumed_of, run_from, Same, State}
use Rattle.mailbox_runs.proofs.Words.{stepped, Stepping, subst, suc, sym, TakenAtFirstOpen, takes, true, turn_form}
use Rattle.mailbox_runs.proofs.Words.{TurnEnds, TurnForm, TurnLaws, uninterrupted, uninterrupted_add, up_to, waiting}
use Rattle.mailbox_runs.proofs.Words.{Writing, zero, ℕ}
use Rattle.run_law.specs.{Uninterrupted.taken_at, Following.onto, Following.Completes}
use Rattle.run_law.proofs.{Algebra.counted_add}
use Rattle.mailbox_runs.specs.{PostedTurns.PostedTurnsFollow}
use Rattle.mailbox_runs.proofs.{Mailing.mailed_apart, Mailing.mailed_alike, Posting.waits_within}
use Rattle.mailbox_runs.proofs.Behind.{to_mail, steps_keep}
use Rattle.mailbox_runs.proofs.Passing.{less_hidden, pass, plain_follows, masked_run, ends_there, not_over}
use Rattle.mailbox_runs.proofs.TakenLists.{Rise, Splits, splits, rise_behind}
use Rattle.mailbox_runs.proofs.TwoSteps.{IsHere, here_at, wide_less, posted_is, taken_at as taken_here, two_steps}
use Rattle.mailbox_runs.proofs.CopyRuns.{IsCopyRun, copy_run, first_is, first_past}

-- the sample that was posted last
posted_last : (ts done : List (Post × Unit {0})) → posted_by (onto ts done) ≡ waiting (posted_by done) (asked ts)
posted_last [] done = refl
posted_last (t ∷ ts) done = posted_last ts (t ∷ done)

good_behind_by : (b : Bool) (Good : Post → Type 0) (m : ℕ) (p : Post) (ps : List Post) → nat_le p.moment m ≡ b
    → AllGood Good (p ∷ ps) → AllGood Good (behind m ps) → AllGood Good (behind m (p ∷ ps))
good_behind_by true Good m p ps e g r = rw e r
good_behind_by false Good m p ps e g r = rw e g

pub good_behind : (Good : Post → Type 0) (m : ℕ) (ps : List Post) → AllGood Good ps → AllGood Good (behind m ps)
good_behind Good m [] g = tt
good_behind Good m (p ∷ ps) g = good_behind_by (nat_le p.moment m) Good m p ps refl g (good_behind Good m ps g.1)

-- without interrupts no step behind the copy writes the mailbox
mail_stays : Stepping → (flags : ℕ) (f : Firmware) (k : ℕ) (s : State)
    → ((j : ℕ) → j < k → FactsBeside is_postable flags f (uninterrupted flags j s))
    → Agree not_mail (uninterrupted flags k s).mem s.mem
mail_stays laws flags f zero s h = agree_self not_mail s.mem
mail_stays laws flags f (suc k) s h =
    let one = h 0 (omega arith) in
    let same : Same is_postable s s =
    record { regs = refl; temps = refl; mem = agree_self (is_hidden is_postable s.regs.sp) s.mem } in
    agree_with not_mail (uninterrupted flags k (stepped flags s)).mem (stepped flags s).mem s.mem
    (mail_stays laws flags f k (stepped flags s) (λ j lt. h (suc j) (omega arith)))
    (steps_keep laws flags s s one.facts (inl same))

-- where posts that wait are taken
module _ (opens : TakenAtFirstOpen) (flags n all g : ℕ) (u : State) (run : IsCopyRun flags n all u) where
  abbrev pub part_moment : Post → ℕ
  part_moment p = p.moment - g

  abbrev pub at_of : Post → ℕ
  at_of = taken_at flags part_moment all u

  pub at_is : (p : Post) → g + 3 ≤ p.moment → p.moment ≤ g + all - 1 → at_of p ≡ max (n + 5) (p.moment - g)
  at_is p lo hi = (let b = run.behind in first_is opens flags n all u run (p.moment - g) (omega arith) (omega arith))

  pub at_past : (p : Post) → g + all ≤ p.moment → at_of p ≡ p.moment - g
  at_past p lo = first_past opens flags n all u run (p.moment - g) (omega arith)

  pub at_sorts : (k : ℕ) (ps : List Post) → g + 3 ≤ k → Rise k ps
      → AllGood (λ q. (q.moment ≤ g + all - 1 → at_of q < all) × (g + all - 1 < q.moment → all ≤ at_of q)) ps
  at_sorts k [] lo r = tt
  at_sorts k (p ∷ ps) lo r =
      let b = run.behind in (
        (
          λ hi. (let e = at_is p (omega (arith, lo, r.0)) hi in omega arith),
          λ past. (let e = at_past p (omega arith) in omega arith),
        ),
        at_sorts p.moment ps (omega (arith, lo, r.0)) r.1,
      )

  at_rises : (p q : Post) → g + 3 ≤ p.moment → p.moment ≤ q.moment → at_of p ≤ at_of q
  at_rises p q lo le =
      let b = run.behind in
      elim (cases_lt q.moment (g + all)) [
        | inl inside ↦ (let a = at_is p lo (omega arith) in let c = at_is q (omega arith) (omega arith) in omega arith)
        | inr past ↦ (let c = at_past q past in elim (cases_lt p.moment (g + all)) [
          | inl soon ↦ (let a = at_is p lo (omega arith) in omega arith)
          | inr late ↦ (let a = at_past p late in omega arith)
        ])
      ]

  at_least : (p : Post) → g + 3 ≤ p.moment → n + 5 ≤ at_of p
  at_least p lo =
      let b = run.behind in
      elim (cases_lt p.moment (g + all)) [
        | inl inside ↦ (let a = at_is p lo (omega arith) in omega arith)
        | inr past ↦ (let a = at_past p past in omega arith)
      ]

  ascends : (p : Post) (ps : List Post) → g + 3 ≤ p.moment → Rise p.moment ps → Ascend at_of (at_of p) ps
  ascends p [] lo r = tt
  ascends p (q ∷ ps) lo r = (at_rises p q lo r.0, ascends q ps (omega (arith, lo, r.0)) r.1)

  pub at_ascends : (k : ℕ) (ps : List Post) → g + 3 ≤ k → Rise k ps → Ascend at_of (n + 5) ps
  at_ascends k [] lo r = tt
  at_ascends k (p ∷ ps) lo r = (at_least p (omega (arith, lo, r.0)), ascends p ps (omega (arith, lo, r.0)) r.1)

module _ (laws : TurnLaws) (flags : ℕ) (f : Firmware) (samples : List (List ℕ)) (n g : ℕ) (box : IsBox f.memory_map n)
    (size : AreOfSize n samples)
    (outputs : f.memory_map.outputs + places f.width * f.outputs ≤ 0x1020) (inputs : f.inputs ≡ n) where
  abbrev image : List ℕ
  image = image_memory f.image.bytes

  abbrev form : TurnForm
  form = turn_form flags f samples g

  -- what the mailbox holds, and what stands elsewhere
  joined : (z t : State) (w : ℕ) (copied : List ℕ) → w ≤ length samples → Same is_postable z t
      → Agree not_mail z.mem (mailed f.memory_map samples w copied)
      → Agree not_mail t.mem copied → Same is_free z (posted f.memory_map samples w t)
  joined z t w copied le l own stays = record {
    regs = l.regs;
    temps = l.temps;
    mem = record {
      size = l.mem.size ∙ sym (let a = mailed_apart writing f.memory_map n samples box size is_free w t.mem le
          in a.size);
      bytes = λ q h. by q (is_mail q) refl h;
    };
  }
    where
      writing : Writing
      writing = (let taking = laws.posting.taking in taking.writing)

      by : (q : ℕ) (b : Bool) → is_mail q ≡ b → is_hidden is_free t.regs.sp q ≡ false
          → get_or z.mem q 0 ≡ get_or (mailed f.memory_map samples w t.mem) q 0
      by q true e h =
          let out : not_mail q ≡ false = ap not e in
          let alike = mailed_alike writing f.memory_map n samples box size not_mail w t.mem copied le stays in
          own.bytes q out ∙ sym (alike.bytes q out)
      by q false e h =
          let p = or_parts (is_free q) (nat_le 0x1FE0 q && nat_lt q t.regs.sp) h in
          let shown : is_hidden is_postable t.regs.sp q ≡ false = rw (p.0, e, p.1) refl in
          let few = box.few in
          let apart = mailed_apart writing f.memory_map n samples box size (is_hidden is_free t.regs.sp) w t.mem le in
          l.mem.bytes q shown ∙ sym (apart.bytes q (wide_less n t.regs.sp q few shown))

  abbrev pub with_sample : ℕ → State → State
  with_sample w s = record s { mem = mailed f.memory_map samples w s.mem }

  abbrev pub at_in : ℕ → State → Post → ℕ
  at_in all u = taken_at flags (λ p. p.moment - g) all u

  -- where a turn of so many steps ends, with its states behind the copy
  abbrev pub end_at : ℕ → State → List State → End
  end_at all z ws = record { state = z; steps = all - (f.inputs + 5); states = ws }

  -- behind the copy, from boundary n + 5 of the turn on
  behind_ends : (k all : ℕ) (u v : State) (qs : List Post) → all ≤ k + (n + 5) → IsHere u → IsAnswerRun f flags all u
      → IsAt image f.memory_map.wait (uninterrupted flags all u)
      → AllGood (IsGoodPost (length samples)) qs → Rise (g + 3) qs → Same is_free v (uninterrupted flags (n + 5) u)
      → (z : State) × (ws : List State) × TurnEnds (run_from form k (g + (n + 5)) false qs v) (all - (n + 5))
      (counted flags (all - (n + 5)) (uninterrupted flags (n + 5) u))
      (resumed_of flags (at_in all u) u qs all)
      (frames_from g (frames_after flags (at_in all u) u None (up_to (g + all - 1) qs))) (up_to (g + all - 1) qs)
      (behind (g + all - 1) qs) (end_at all z ws)
      × Same is_free z (posted f.memory_map samples (waiting 0 (up_to (g + all - 1) qs)) (uninterrupted flags all u))
      × Same is_postable z (uninterrupted flags all u)
      × AllSimulate OnStackOnly is_postable flags ws (uninterrupted flags (f.inputs + 5) u)
  behind_ends k all u v qs fuel here run end good rise l =
      let c = copy_run laws.posting.steps flags f n all inputs u here run in
      let later = c.behind in
      let x = uninterrupted flags (n + 5) u in
      let left = all - (n + 5) in
      let part = part_form flags f samples g in
      let at = at_in all u in
      let facts : (j : ℕ) → j < left → FactsBeside is_postable flags f (uninterrupted flags j x) =
      (λ j lt. subst (λ (y : State). FactsBeside is_postable flags f y) (uninterrupted_add flags (n + 5) j u)
      (run.facts (n + 5 + j) (omega arith) (omega arith))) in
      let go : Completes (FactsBeside is_postable flags f) part (n + 5) left all u = record {
        sum = omega arith;
        holds = facts;
        on = λ j lo lt. not_over flags f samples g (g + j) (uninterrupted flags j u) (run.away j (omega arith) lt);
        ended = ends_there g (g + all) (uninterrupted flags all u).regs.pc f.memory_map.wait (omega arith) end.pc;
      } in
      let same : Same is_postable v x =
      record {
        regs = l.regs;
        temps = l.temps;
        mem =
            record { size = l.mem.size; bytes = λ q h. l.mem.bytes q (less_hidden x.regs.sp q h) };
      } in
      let own : HoldsMail f.memory_map samples x.mem [] v =
      record { within = omega arith; mail = to_mail x.regs.sp v.mem x.mem l.mem } in
      let up = at_ascends laws.first_open flags n all g u c (g + 3) qs (omega arith) rise in
      let r = laws.follows flags f samples n g x.mem box size outputs [] (n + 5) left all k qs v u
      (omega arith) good up same own go in
      let ran = run_from part k (n + 5) (is_inside flags u (n + 5)) qs v in
      let is : run_from form k (g + (n + 5)) false qs v ≡ ran_from g ran =
      laws.count_on form g k (n + 5) false qs v
      ∙ ap (λ (b : Bool). ran_from g (run_from part k (n + 5) b qs v)) (sym (c.outside (n + 5) (omega arith))) in
      let sorted : Splits at all (g + all - 1) qs =
      splits at all (g + all - 1) (g + 3) qs
      (at_sorts laws.first_open flags n all g u c (g + 3) qs (omega arith) rise) rise in
      let told : asked ran.told ≡ up_to (g + all - 1) qs = r.taken ∙ sorted.taken in
      let w = waiting 0 (up_to (g + all - 1) qs) in
      let w_is : posted_by (onto ran.told []) ≡ w = posted_last ran.told [] ∙ ap (waiting 0) told in
      let le = waits_within (length samples) (g + all - 1) 0 qs (omega arith) good in
      let kept = r.own in
      let mail : Agree not_mail ran.state.mem (mailed f.memory_map samples w x.mem) =
      subst (λ (y : ℕ). Agree not_mail ran.state.mem (mailed f.memory_map samples y x.mem)) w_is kept.mail in
      let at_end : uninterrupted flags left x ≡ uninterrupted flags all u = sym (uninterrupted_add flags (n + 5) left u)
      ∙ ap (λ (y : ℕ). uninterrupted flags y u) (let e : n + 5 + left ≡ all = omega arith in e) in
      let stays : Agree not_mail (uninterrupted flags all u).mem x.mem =
      subst (λ (y : State). Agree not_mail y.mem x.mem) at_end
      (mail_stays laws.posting.stepping flags f left x facts) in (
        ran.state,
        ran.states,
        subst (λ (y : Ran Post (Unit {0})). TurnEnds y left (counted flags left x) (resumed_of flags at u qs all)
            (frames_from g (frames_after flags at u None (up_to (g + all - 1) qs))) (up_to (g + all - 1) qs)
            (behind (g + all - 1) qs) (end_at all ran.state ran.states)) (sym is) (record {
              arrived = r.arrived;
              steps = r.steps;
              instrs_are = r.instrs;
              resumed_is = r.resumed;
              frames_are = ap (frames_from g)
                  (r.frames ∙ ap (λ (ps : List Post). frames_after flags at u None ps) sorted.taken);
              told_is = told;
              left_is = r.left ∙ sorted.left;
              state = refl;
              late = omega (arith, inputs);
              states_are = ap (λ (y : ℕ). drop y ran.states)
                  (let y : left - (all - (f.inputs + 5)) ≡ 0 = omega (arith, inputs) in y);
            }),
        joined ran.state (uninterrupted flags all u) w x.mem le r.last mail stays,
        r.last,
        subst (λ (y : ℕ). AllSimulate OnStackOnly is_postable flags ran.states (uninterrupted flags (y + 5) u))
            (sym inputs) r.simulates,
      )

  -- the whole turn
  pub answer_run : (k all w wf : ℕ) (s v : State) (qs : List Post) → all ≤ k → IsHere s → 1 ≤ w → w ≤ length samples
      → 1 ≤ wf → wf ≤ length samples
      → IsAt image f.memory_map.wait (uninterrupted flags all (with_sample wf s))
      → AllGood (IsGoodPost (length samples)) qs → Rise (g + 1) qs → up_to g qs ≡ [] → Same is_free v (with_sample w s)
      → wf ≡ waiting (waiting w (up_to (g + 1) qs)) (up_to (g + 2) (behind (g + 1) qs))
      → (run : IsAnswerRun f flags all (with_sample wf s))
      → (z : State) × (ws : List State) × TurnEnds (run_from form k g false qs v) all
      (counted flags all (with_sample wf s))
      (resumed_of flags (at_in all (with_sample wf s)) (with_sample wf s) (behind (g + 2) (behind (g + 1) qs)) all)
      (map (λ p. (g + 1, plain_frame (let t : State = run.looked in t.regs))) (up_to (g + 1) qs)
      ++ (map (λ p. (g + 2, plain_frame (let t : State = run.chosen in t.regs))) (up_to (g + 2) (behind (g + 1) qs))
      ++ frames_from g (frames_after flags (at_in all (with_sample wf s)) (with_sample wf s) None
      (up_to (g + all - 1) (behind (g + 2) (behind (g + 1) qs))))))
      (up_to (g + 1) qs ++
      (up_to (g + 2) (behind (g + 1) qs) ++ up_to (g + all - 1) (behind (g + 2) (behind (g + 1) qs))))
      (behind (g + all - 1) (behind (g + 2) (behind (g + 1) qs))) (end_at all z ws)
      × Same is_free z (posted f.memory_map samples (waiting 0
      (up_to (g + all - 1) (behind (g + 2) (behind (g + 1) qs))))
      (uninterrupted flags all (with_sample wf s)))
      × Same is_postable z (uninterrupted flags all (with_sample wf s))
      × AllSimulate OnStackOnly is_postable flags ws (uninterrupted flags (f.inputs + 5) (with_sample wf s))
  answer_run k all w wf s v qs fuel here some le somef lef end good rise none l wf_is run =
      let u = with_sample wf s in
      let taking = laws.posting.taking in
      let r = here.ready in
      let apart = mailed_apart taking.writing f.memory_map n samples box size is_free wf s.mem lef in
      let here_u : IsHere u = record {
        ready = record {
          may = r.may;
          temps = r.temps;
          size = apart.size ∙ r.size;
          fits = r.fits;
          low =
              r.low;
          high = r.high;
        };
        code = here.code;
        sp = here.sp;
      } in
      let c = copy_run laws.posting.steps flags f n all inputs u here_u run in
      let later = c.behind in
      let qs1 = behind (g + 1) qs in
      let qs2 = behind (g + 2) qs1 in
      let good1 = good_behind (IsGoodPost (length samples)) (g + 1) qs good in
      let good2 = good_behind (IsGoodPost (length samples)) (g + 2) qs1 good1 in
      let w1 = waiting w (up_to (g + 1) qs) in
      let le1 = waits_within (length samples) (g + 1) w qs le good in
      let posted : get_or (mailed f.memory_map samples w s.mem) f.memory_map.sample_flag 0 ≡ get_or
      (mailed f.memory_map samples wf s.mem) f.memory_map.sample_flag 0 =
      posted_is laws.posting.steps taking flags f samples n g image box size s.mem r.size w some le
      ∙ sym (posted_is laws.posting.steps taking flags f samples n g image box size s.mem r.size wf somef lef) in
      let p = two_steps laws.posting.steps taking flags f samples n g image box size s.mem r.size u run.looked
      run.chosen v w wf qs here_u run.look run.choice le lef refl posted good none
      (record { regs = l.regs; temps = l.temps; mem = l.mem }) in
      let on = run.on in
      let here2 = here_at image (f.memory_map.wait + 5) run.chosen on in
      let b = taken_here laws.posting.steps taking flags f samples n g image box size s.mem r.size run.chosen w1
      (g + 2) qs1 p.next here2.ready le1 good1 p.stands in
      let v3 = (takes form (g + 2) qs1 p.next).state in
      let copy = run.copy in
      let look = run.look in
      let choice = run.choice in
      let mem : run.chosen.mem ≡ mailed f.memory_map samples wf s.mem = choice.mem ∙ look.mem in
      let st : Same is_free v3 (record (run.chosen) { mem = mailed f.memory_map samples wf s.mem }) =
      subst (λ (x : ℕ). Same is_free v3 (record (run.chosen) { mem = mailed f.memory_map samples x s.mem }))
      (sym wf_is) b.stands in
      let at3 : Same is_free v3 run.chosen =
      record {
        regs = st.regs;
        temps = st.temps;
        mem =
            subst (λ (m : List ℕ). Agree (is_hidden is_free (let t : State = run.chosen in t.regs.sp)) v3.mem m)
            (sym mem) st.mem;
      } in
      let o = plain_follows laws.posting.steps false image flags (Orcc 0x10) run.chosen copy.masked v3 on.steady
      copy.sets at3 in
      let many = masked_run laws.posting.steps flags f samples n g box size taking image copy.ds
      (suc (g + 2)) qs2 copy.masked run.called o.next copy.copies o.same in
      let j = k - (n + 5) in
      let len : length copy.ds ≡ n + 2 = copy.count ∙ ap (λ (x : ℕ). x + 2) inputs in
      let called : uninterrupted flags (n + 5) u ≡ run.called =
      ap (λ (x : ℕ). uninterrupted flags (x + 5) u) (sym inputs) ∙ run.call in
      let same5 : Same is_free many.next (uninterrupted flags (n + 5) u) =
      subst (λ (x : State). Same is_free many.next x) (sym called) many.same in
      let rise2 : Rise (g + 3) qs2 =
      (let e : suc (g + 2) ≡ g + 3 = omega arith in
      subst (λ (x : ℕ). Rise x qs2) e
      (rise_behind (suc (g + 1)) (g + 2) qs1 (rise_behind (g + 1) (g + 1) qs rise))) in
      let rest = behind_ends j all u many.next qs2 (omega arith) here_u run end good2 rise2 same5 in
      let z = end_at all rest.0 rest.1 in
      let e5 : g + (n + 5) ≡ suc (g + 2) + length copy.ds = omega arith in
      let left = all - (n + 5) in
      let inst = counted flags left (uninterrupted flags (n + 5) u) in
      let res = resumed_of flags (at_in all u) u qs2 all in
      let fs = frames_from g (frames_after flags (at_in all u) u None (up_to (g + all - 1) qs2)) in
      let ts = up_to (g + all - 1) qs2 in
      let lf = behind (g + all - 1) qs2 in
      let r5 = subst (λ (x : ℕ). TurnEnds (run_from form j x false qs2 many.next) left inst res fs ts lf z) e5
      rest.2 in
      let r3 = many.on j left inst res ts lf fs z r5 in
      let e2 : suc (suc g) ≡ g + 2 = omega arith in
      let r2 = pass form (length copy.ds + j) (g + 2) (length copy.ds + left) (length copy.ds + inst) res qs1 ts lf fs
      p.next o.next z
      (not_over flags f samples g (g + 2) p.next
      (λ z. away (sym (ap (λ (x : Regs). x.pc) (let q = p.stands in q.regs)) ∙ z))) o.goes
      (subst (λ (xs : List Post). TurnEnds (run_from form (length copy.ds + j) (suc (g + 2)) false xs o.next)
      (length copy.ds + left) (length copy.ds + inst) res fs ts lf z) (sym b.left) r3) in
      let r2b = subst (λ (xs : List (ℕ × FrameSeen)). TurnEnds
      (run_from form (suc (length copy.ds + j)) (g + 2) false qs1 p.next) (suc (length copy.ds + left))
      (suc (length copy.ds + inst)) res (xs ++ fs) (asked (takes form (g + 2) qs1 p.next).told ++ ts) lf z)
      b.frames r2 in
      let r2c = subst (λ (xs : List Post). TurnEnds (run_from form (suc (length copy.ds + j)) (g + 2) false qs1 p.next)
      (suc (length copy.ds + left)) (suc (length copy.ds + inst)) res
      (map (λ q. (g + 2, plain_frame (let t : State = run.chosen in t.regs))) (up_to (g + 2) qs1) ++ fs)
      (xs ++ ts) lf z) b.told r2b in
      let r1 = p.on (suc (length copy.ds + j)) (suc (length copy.ds + left)) (suc (length copy.ds + inst)) res
      (up_to (g + 2) qs1 ++ ts) lf
      (map (λ q. (g + 2, plain_frame (let t : State = run.chosen in t.regs))) (up_to (g + 2) qs1) ++ fs) z
      (subst (λ (x : ℕ). TurnEnds (run_from form (suc (length copy.ds + j)) x false qs1 p.next)
      (suc (length copy.ds + left)) (suc (length copy.ds + inst)) res
      (map (λ q. (g + 2, plain_frame (let t : State = run.chosen in t.regs))) (up_to (g + 2) qs1) ++ fs)
      (up_to (g + 2) qs1 ++ ts) lf z) (sym e2) r2c) in
      let ek : suc (suc (suc (length copy.ds + j))) ≡ k = omega arith in
      let en : suc (suc (suc (length copy.ds + left))) ≡ all = omega arith in
      let sum : n + 5 + left ≡ all = omega arith in
      let counts = ap (λ (x : ℕ). counted flags x u) (sym sum) ∙ counted_add flags (n + 5) left u in
      let c5 = c.counts in
      let ei : suc (suc (suc (length copy.ds + inst))) ≡ counted flags all u = omega arith in (
        rest.0,
        rest.1,
        whole k all (suc (suc (suc (length copy.ds + j)))) (suc (suc (suc (length copy.ds + left))))
            (suc (suc (suc (length copy.ds + inst)))) (counted flags all u) res _ _ lf z qs v ek en ei r1,
        rest.3,
        rest.4,
        rest.5,
      )
    where
      away : run.chosen.regs.pc ≡ f.memory_map.wait → ⊥
      away e = (let on = run.on in let p = on.pc in omega arith)

      whole : (k all k2 all2 i2 i res : ℕ) (fs : List (ℕ × FrameSeen)) (ts lf : List Post) (z : End) (qs : List Post)
          (v : State) → k2 ≡ k → all2 ≡ all → i2 ≡ i
          → TurnEnds (run_from form k2 g false qs v) all2 i2 res fs ts lf z
          → TurnEnds (run_from form k g false qs v) all i res fs ts lf z
      whole k all k2 all2 i2 i res fs ts lf z qs v ek en ei r =
          subst (λ (x : ℕ). TurnEnds (run_from form x g false qs v) all i res fs ts lf z) ek
          (subst (λ (x : ℕ). TurnEnds (run_from form k2 g false qs v) x i res fs ts lf z) en
          (subst (λ (x : ℕ). TurnEnds (run_from form k2 g false qs v) all2 x res fs ts lf z) ei r))

pub posted_turns_follow : TurnLaws → PostedTurnsFollow
posted_turns_follow laws flags f samples n g most all w last s v qs box size outputs inputs fuel at some le somef lef
    last_is end good rise none l run =
    let r = answer_run laws flags f samples n g box size outputs inputs most all w last s v qs fuel
    (here_at (image_memory f.image.bytes) f.memory_map.wait s at) some le somef lef end good rise none l last_is run in
    record {
      last = r.0;
      late = r.1;
      ends = r.2;
      simulates = r.5;
      mailed = r.3;
      same = r.4;
    }

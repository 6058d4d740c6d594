-- The first two boundaries of a turn: the code looks at POSTED, and chooses.
use Rattle.mailbox_runs.proofs.Words.{[], ◌&&◌, ◌++◌, ◌+◌, ◌∙◌, ◌≡◌, ◌≢◌, ◌≤◌, Agree, AllGood, AllShown, ap, ap₂}
use Rattle.mailbox_runs.proofs.Words.{AreOfSize, arith, asked, behind, Beq, Bool, bytes_of, End, false, Firmware}
use Rattle.mailbox_runs.proofs.Words.{FrameSeen, get_or, is_free, is_hidden, is_mail, is_postable, IsAt, IsBox}
use Rattle.mailbox_runs.proofs.Words.{IsChoice, IsGoodPost, IsLook, last_of, LdaaExtended, length, List, mailed, map}
use Rattle.mailbox_runs.proofs.Words.{nat_le, nat_lt, nat_tests, next_of, not, or_parts, plain_frame, PlainStepLaws}
use Rattle.mailbox_runs.proofs.Words.{Post, posted, put, refl, Regs, run_from, Same, set, six_from, State, subst, suc}
use Rattle.mailbox_runs.proofs.Words.{sym, takes, TakingLaws, true, turn_form, TurnEnds, TurnForm, up_to, waiting, ℕ}
use Rattle.std.proofs.{Common.get_or-set_same}
use Rattle.std.specs.Prelude.{◌==◌}
use Rattle.std.proofs.lemmas.List.{length-set}
use Rattle.mailbox_runs.proofs.LastOnes.{split}
use Rattle.mailbox_runs.proofs.Mailing.{wide, is_boxed, mailed_apart, mailed_over}
use Rattle.mailbox_runs.proofs.Posting.{IsReady, ready_as, same_with, waiting_last, waits_within, took_all}
use Rattle.mailbox_runs.proofs.Passing.{plainly, quiet_plain, less_hidden, shown_weaker, pass, not_over}

not_below : (g : ℕ) → nat_lt g g ≡ false
not_below g = grind (arith, nat_tests)

not_true : (b : Bool) → (b && false) ≡ false
not_true true = refl
not_true false = refl

-- the box is open to posts, and not free
unboxed : (n q : ℕ) → n ≤ 8 → is_postable q ≡ false → is_boxed n q ≡ false
unboxed n q few h = cases (is_boxed n q) refl
  where
    cases : (b : Bool) → is_boxed n q ≡ b → is_boxed n q ≡ false
    cases false e = e
    cases true e =
        let p = or_parts (nat_le 0x1800 q && nat_lt q 0x1FE0) (is_mail q) h in
        let m : is_mail q ≡ false = p.1 in
        grind (arith, nat_tests)

pub wide_less : (n sp q : ℕ) → n ≤ 8 → is_hidden is_postable sp q ≡ false → wide (is_hidden is_free sp) n q ≡ false
wide_less n sp q few h =
    let p = or_parts (is_postable q) (nat_le 0x1FE0 q && nat_lt q sp) h in
    rw (less_hidden sp q h, unboxed n q few p.0) refl

-- POSTED is not hidden by the stack or the free bytes
pub ready_shown : (sp q : ℕ) → q ≡ 0x1028 → is_hidden is_free sp q ≡ false
ready_shown sp q z =
    let a : is_free q ≡ false = grind (arith, nat_tests) in
    let b : (nat_le 0x1FE0 q && nat_lt q sp) ≡ false = grind (arith, nat_tests) in
    rw (a, b) refl

-- an interrupt may come, and the code that stands at PC is shown
pub record IsHere (s : State) : Type 0 where
  pub ready : IsReady s
  pub code : AllShown (is_hidden is_postable s.regs.sp) (six_from s.regs.pc)
  pub sp : s.regs.sp ≡ 0x2000

pub here_at : (image : List ℕ) (at : ℕ) (s : State) → IsAt image at s → IsHere s
here_at image at s h =
    let steady = h.steady in
    let sp = h.sp in
    record {
      ready = record {
        may = ap not steady.mask;
        temps = steady.temps;
        size = steady.size;
        fits = steady.fits;
        low = omega (arith, sp);
        high = omega (arith, sp);
      };
      code = steady.code;
      sp = sp;
    }

module _ (steps : PlainStepLaws) (laws : TakingLaws) (flags : ℕ) (f : Firmware) (samples : List (List ℕ)) (n g : ℕ)
    (image : List ℕ) (box : IsBox f.memory_map n) (size : AreOfSize n samples)
    (base : List ℕ) (base_size : length base ≡ 65536) where
  abbrev form : TurnForm
  form = turn_form flags f samples g

  -- v stands for a state t with sample w in the mailbox
  abbrev pub Stands : State → ℕ → State → Type 0
  Stands t w v = Same is_free v (record t { mem = mailed f.memory_map samples w base })

  sized : (w : ℕ) → w ≤ length samples → length (mailed f.memory_map samples w base) ≡ 65536
  sized w le = (let a = mailed_apart laws.writing f.memory_map n samples box size is_free w base le in a.size
      ∙ base_size)

  -- POSTED is 1 where a sample is in the mailbox
  posted_by : (b : Bool) (w : ℕ) → (w == 0) ≡ b → 1 ≤ w
      → length (set (put base f.memory_map.samples (bytes_of samples w)) f.memory_map.sample_flag 1) ≡ 65536
      → get_or (mailed f.memory_map samples w base) f.memory_map.sample_flag 0 ≡ 1
  posted_by true w e some le = absurd (grind (arith, nat_tests))
  posted_by false w e some le =
      let m = put base f.memory_map.samples (bytes_of samples w) in
      let ready = box.ready in
      let len = length-set m f.memory_map.sample_flag 1 in
      rw e (get_or-set_same m f.memory_map.sample_flag 1 0 (omega (arith, ready, len, le)))

  pub posted_is : (w : ℕ) → 1 ≤ w → w ≤ length samples → get_or (mailed f.memory_map samples w base) f.memory_map.sample_flag
      0 ≡ 1
  posted_is w some le =
      let e : (w == 0) ≡ false = grind (arith, nat_tests) in
      let s : length (set (put base f.memory_map.samples (bytes_of samples w)) f.memory_map.sample_flag 1) ≡ 65536 =
      rw e at (sized w le) in
      posted_by (w == 0) w refl some s

  -- the code looks: only POSTED is read of the mailbox
  look_hidden : ℕ → ℕ → Bool
  look_hidden sp q = wide (is_hidden is_free sp) n q && not (q == 0x1028)

  pub looks_on : (y t v : State) (w k : ℕ) → IsHere y → IsLook f.memory_map image flags y t → w ≤ length samples
      → k ≤ length samples
      → y.mem ≡ mailed f.memory_map samples k base
      → get_or (mailed f.memory_map samples w base) f.memory_map.sample_flag 0 ≡ get_or
      (mailed f.memory_map samples k base) f.memory_map.sample_flag 0
      → Stands y w v → next_of flags v ≡ plainly (record t { mem = v.mem })
  unfolding look_hidden
  looks_on y t v w k at look lw lk my same l =
      let sp = y.regs.sp in
      let hidden = look_hidden sp in
      let few = box.few in
      let ready = box.ready in
      let r = at.ready in
      let step = look.step in
      let code = shown_weaker (is_hidden is_postable sp) hidden (six_from y.regs.pc)
      (λ q h. ap (λ (b : Bool). b && not (q == 0x1028)) (wide_less n sp q few h)) at.code in
      let here : (f.memory_map.sample_flag == 0x1028) ≡ true = grind (arith, nat_tests) in
      let read : hidden f.memory_map.sample_flag ≡ false =
      ap (λ (b : Bool). wide (is_hidden is_free sp) n f.memory_map.sample_flag && not b) here
      ∙ not_true (wide (is_hidden is_free sp) n f.memory_map.sample_flag) in
      let aw = mailed_apart laws.writing f.memory_map n samples box size (is_hidden is_free sp) w base lw in
      let ak = mailed_apart laws.writing f.memory_map n samples box size (is_hidden is_free sp) k base lk in
      let agree : Agree hidden v.mem y.mem = record {
        size = l.mem.size ∙ sized w lw ∙ sym (sized k lk) ∙ ap (λ (m : List ℕ). length m) (sym my);
        bytes = λ q h. (by q (q == 0x1028) refl h ∙ ap (λ (m : List ℕ). get_or m q 0) (sym my));
      } in
      quiet_plain steps flags hidden (LdaaExtended f.memory_map.sample_flag) y t v r.temps step.step refl code
      (read, tt) l.regs l.temps agree
    where
      by : (q : ℕ) (b : Bool) → (q == 0x1028) ≡ b
          → (wide (is_hidden is_free y.regs.sp) n q && not (q == 0x1028)) ≡ false
          → get_or v.mem q 0 ≡ get_or (mailed f.memory_map samples k base) q 0
      by q true e h =
          let there : q ≡ f.memory_map.sample_flag =
          (let ready = box.ready in let z : q ≡ 0x1028 = grind (arith, nat_tests) in omega arith) in
          let free : is_hidden is_free y.regs.sp q ≡ false =
          (let z : q ≡ 0x1028 = grind (arith, nat_tests) in ready_shown y.regs.sp q z) in
          l.mem.bytes q free ∙ ap (λ (p : ℕ). get_or (mailed f.memory_map samples w base) p 0) there ∙ same
          ∙ ap (λ (p : ℕ). get_or (mailed f.memory_map samples k base) p 0) (sym there)
      by q false e h =
          let shown : wide (is_hidden is_free y.regs.sp) n q ≡ false =
          only (wide (is_hidden is_free y.regs.sp) n q) (q == 0x1028) e h in
          let p = or_parts (is_hidden is_free y.regs.sp q) (is_boxed n q) shown in
          let aw = mailed_apart laws.writing f.memory_map n samples box size (is_hidden is_free y.regs.sp) w base lw in
          let ak = mailed_apart laws.writing f.memory_map n samples box size (is_hidden is_free y.regs.sp) k base lk in
          l.mem.bytes q p.0 ∙ aw.bytes q shown ∙ sym (ak.bytes q shown)
        where
          only : (b c : Bool) → c ≡ false → (b && not c) ≡ false → b ≡ false
          only true true e h = cc
          only true false e h = h
          only false c e h = refl

  -- it chooses: nothing is read of memory
  pub chooses_on : (y t v : State) (w k : ℕ) → IsHere y → IsChoice f.memory_map image flags y t → w ≤ length samples
      → k ≤ length samples
      → y.mem ≡ mailed f.memory_map samples k base → Stands y w v → next_of flags v ≡ plainly (record t { mem = v.mem })
  chooses_on y t v w k here choice lw lk my l =
      let sp = y.regs.sp in
      let hidden = wide (is_hidden is_free sp) n in
      let few = box.few in
      let r = here.ready in
      let step = choice.step in
      let code = shown_weaker (is_hidden is_postable sp) hidden (six_from y.regs.pc)
      (λ q h. wide_less n sp q few h) here.code in
      let aw = mailed_apart laws.writing f.memory_map n samples box size (is_hidden is_free sp) w base lw in
      let ak = mailed_apart laws.writing f.memory_map n samples box size (is_hidden is_free sp) k base lk in
      let agree : Agree hidden v.mem y.mem = record {
        size = l.mem.size ∙ sized w lw ∙ sym (sized k lk) ∙ ap (λ (m : List ℕ). length m) (sym my);
        bytes = λ q h. (let p = or_parts (is_hidden is_free sp q) (is_boxed n q) h in
            l.mem.bytes q p.0 ∙ aw.bytes q h ∙ sym (ak.bytes q h) ∙ ap (λ (m : List ℕ). get_or m q 0) (sym my));
      } in
      quiet_plain steps flags hidden (Beq 0xFB) y t v r.temps step.step refl code tt l.regs l.temps agree

  -- what is taken at a boundary
  pub record Taken (t : State) (w m : ℕ) (qs : List Post) (v : State) : Type 0 where
    pub left : (takes form m qs v).left ≡ behind m qs
    pub told : asked (takes form m qs v).told ≡ up_to m qs
    pub frames : (takes form m qs v).frames ≡ map (λ p. (m, plain_frame t.regs)) (up_to m qs)
    pub stands : Stands t (waiting w (up_to m qs)) (takes form m qs v).state

  pub taken_at : (t : State) (w m : ℕ) (qs : List Post) (v : State) → IsReady t → w ≤ length samples
      → AllGood (IsGoodPost (length samples)) qs → Stands t w v → Taken t w m qs v
  taken_at t w m qs v r lw good l =
      let rt : IsReady (record t { mem = mailed f.memory_map samples w base }) =
      record { may = r.may; temps = r.temps; size = sized w lw; fits = r.fits; low = r.low; high = r.high } in
      let k = took_all laws flags f samples n g box size m qs v
      (ready_as is_free v (record t { mem = mailed f.memory_map samples w base }) l rt) good in
      let w2 = waiting 0 (up_to m qs) in
      let le = waits_within (length samples) m 0 qs (omega arith) good in
      let over : Same is_free (posted f.memory_map samples w2 v)
      (record t { mem = mailed f.memory_map samples (last_of w w2) base }) =
      record {
        regs = l.regs;
        temps = l.temps;
        mem =
            mailed_over laws.writing f.memory_map n samples box size (is_hidden is_free t.regs.sp) w w2 v.mem base le
            lw l.mem;
      } in
      let both = same_with is_free (takes form m qs v).state (posted f.memory_map samples w2 v)
      (record t { mem = mailed f.memory_map samples (last_of w w2) base }) k.same over in
      record {
        left = k.left;
        told = k.told;
        frames = k.frames ∙ ap (λ (x : Regs). map (λ p. (m, plain_frame x)) (up_to m qs)) l.regs;
        stands = subst (λ (x : ℕ). Stands t x (takes form m qs v).state) (sym (waiting_last w (up_to m qs))) both;
      }

  -- both boundaries, where all posts up to the first are taken
  pub record Passed (t : State) (w : ℕ) (qs : List Post) (frames : List (ℕ × FrameSeen)) (v : State) : Type 0 where
    pub next : State
    pub stands : Stands t (waiting w (up_to (g + 1) qs)) next
    pub on : (k i c res : ℕ) (ts l : List Post) (fs : List (ℕ × FrameSeen)) (z : End)
        → TurnEnds (run_from form k (suc (suc g)) false (behind (g + 1) qs) next) i c res fs ts l z
        → TurnEnds (run_from form (suc (suc k)) g false qs v) (suc (suc i)) (suc (suc c)) res (frames ++ fs)
        (up_to (g + 1) qs ++ ts) l z

  pub two_steps : (y t u v : State) (w k : ℕ) (qs : List Post) → IsHere y → IsLook f.memory_map image flags y t
      → IsChoice f.memory_map image flags t u → w ≤ length samples → k ≤ length samples
      → y.mem ≡ mailed f.memory_map samples k base
      → get_or (mailed f.memory_map samples w base) f.memory_map.sample_flag 0 ≡ get_or
      (mailed f.memory_map samples k base) f.memory_map.sample_flag 0
      → AllGood (IsGoodPost (length samples)) qs → up_to g qs ≡ []
      → Stands y w v → Passed u w qs (map (λ p. (g + 1, plain_frame t.regs)) (up_to (g + 1) qs)) v
  two_steps y t u v w k qs at look choice lw lk my same good none l =
      let a = taken_at y w g qs v at.ready lw good l in
      let v0 = (takes form g qs v).state in
      let w0 : waiting w (up_to g qs) ≡ w = ap (waiting w) none in
      let l0 : Stands y w v0 = subst (λ (x : ℕ). Stands y x v0) w0 a.stands in
      let rest : behind g qs ≡ qs = subst (λ (xs : List Post). xs ++ behind g qs ≡ qs) none (split g qs) in
      let next0 = looks_on y t v0 w k at look lw lk my same l0 in
      let v1 : State = record t { mem = v0.mem } in
      let l1 : Stands t w v1 =
      record {
        regs = refl;
        temps = refl;
        mem =
            subst (λ (x : ℕ). Agree (is_hidden is_free x) v0.mem (mailed f.memory_map samples w base)) sp_same l0.mem;
      } in
      let m1 : suc g ≡ g + 1 = omega arith in
      let there = here_at image (f.memory_map.wait + 3) t look.at in
      let b = taken_at t w (g + 1) qs v1 there.ready lw good l1 in
      let v2 = (takes form (g + 1) qs v1).state in
      let w2 = waiting w (up_to (g + 1) qs) in
      let lw2 = waits_within (length samples) (g + 1) w qs lw good in
      let mt : t.mem ≡ mailed f.memory_map samples k base = look.mem ∙ my in
      let next1 = chooses_on t u v2 w2 k there choice lw2 lk mt b.stands in
      let v3 : State = record u { mem = v2.mem } in
      record {
        next = v3;
        stands = record {
          regs = refl;
          temps = refl;
          mem =
              subst (λ (x : ℕ). Agree (is_hidden is_free x) v2.mem (mailed f.memory_map samples w2 base)) sp_later
              b.stands.mem;
        };
        on = λ j i c res ts l2 fs z r.
            (let e1 = pass form j (suc g) i c res qs ts l2 fs v1 v3 z (not_over flags f samples g (suc g) v1 away1)
            (subst (λ (x : ℕ). next_of flags (takes form x qs v1).state ≡ plainly v3) (sym m1) next1)
            (subst (λ (xs : List Post). TurnEnds (run_from form j (suc (suc g)) false xs v3) i c res fs ts l2 z)
            (sym (ap (λ (x : ℕ). (takes form x qs v1).left) m1 ∙ b.left)) r) in
            let e2 = pass form (suc j) g (suc i) (suc c) res qs (asked (takes form (suc g) qs v1).told ++ ts) l2
            ((takes form (suc g) qs v1).frames ++ fs) v v1 z (first_on v)
            next0
            (subst (λ (xs : List Post). TurnEnds (run_from form (suc j) (suc g) false xs v1) (suc i) (suc c) res
            ((takes form (suc g) qs v1).frames ++ fs) (asked (takes form (suc g) qs v1).told ++ ts) l2 z)
            (sym (a.left ∙ rest)) e1) in
            subst (λ (xs : List Post). TurnEnds (run_from form (suc (suc j)) g false qs v) (suc (suc i))
            (suc (suc c)) res (map (λ p. (g + 1, plain_frame t.regs)) (up_to (g + 1) qs) ++ fs) xs l2 z)
            (ap₂ (λ (xs ys : List Post). xs ++ (ys ++ ts)) (a.told ∙ none)
            (ap (λ (x : ℕ). asked (takes form x qs v1).told) m1 ∙ b.told))
            (subst (λ (xs : List (ℕ × FrameSeen)). TurnEnds (run_from form (suc (suc j)) g false qs v) (suc (suc i))
            (suc (suc c)) res xs
            (asked (takes form g qs v).told ++ (asked (takes form (suc g) qs v1).told ++ ts)) l2 z)
            (ap₂ (λ (xs ys : List (ℕ × FrameSeen)). xs ++ (ys ++ fs))
            (a.frames ∙ ap (map (λ p. (g, plain_frame y.regs))) none)
            (ap (λ (x : ℕ). (takes form x qs v1).frames) m1 ∙ b.frames)) e2));
      }
    where
      sp_same : y.regs.sp ≡ t.regs.sp
      sp_same = (let h = look.at in at.sp ∙ sym h.sp)

      sp_later : t.regs.sp ≡ u.regs.sp
      sp_later = (let h = look.at in let k = choice.at in h.sp ∙ sym k.sp)

      away1 : t.regs.pc ≢ f.memory_map.wait
      away1 e = (let h = look.at in let p = h.pc in omega arith)

      first_on : (v : State) → form.ends g v ≡ false
      first_on v = ap (λ (b : Bool). b && (v.regs.pc == f.memory_map.wait)) (not_below g)

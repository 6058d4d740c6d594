-- All posts that are due at a boundary where I is 0 are taken there.
use Rattle.mailbox_runs.proofs.Words.{[], ◌&&◌, ◌∙◌, ◌∷◌, ◌≡◌, ◌≤◌, Agree, agree_self, agree_with, AllGood, ap, ap₂}
use Rattle.mailbox_runs.proofs.Words.{AreOfSize, arith, asked, behind, Bool, false, Firmware, frame_of, framed}
use Rattle.mailbox_runs.proofs.Words.{FrameSeen, Free, has, if◌then◌else◌, inl, inr, interrupts_masked, is_free}
use Rattle.mailbox_runs.proofs.Words.{is_hidden, is_postable, IsBox, IsGoodPost, last_of, length, List, map}
use Rattle.mailbox_runs.proofs.Words.{may_interrupt, nat_le, nat_tests, not, plain_frame, Post, post_writes, posted}
use Rattle.mailbox_runs.proofs.Words.{put_take, refl, Regs, Same, State, subst, suc, suspended, sym, taken, takes}
use Rattle.mailbox_runs.proofs.Words.{Taking, TakingLaws, told, true, turn_form, TurnForm, up_to, waiting, wav, zero}
use Rattle.mailbox_runs.proofs.Words.{ℕ}
use Rattle.std.specs.{Prelude.◌==◌}
use Rattle.cpu12_isa.specs.{Fits.FitsRegs}
use Rattle.cpu12_emul.specs.{Take.frame_on}
use Rattle.mailbox_runs.proofs.LastOnes.{zero_or, none_put, some_put}
use Rattle.mailbox_runs.proofs.Mailing.{leaves_stack, open_post, post_mailed, mailed_apart, mailed_over}

-- a state in which an interrupt may come, with no sums, and room on the stack
pub record IsReady (v : State) : Type 0 where
  pub may : may_interrupt v ≡ true
  pub temps : v.temps ≡ Free
  pub size : length v.mem ≡ 65536
  pub fits : FitsRegs v.regs
  pub low : 0x1FE9 ≤ v.regs.sp
  pub high : v.regs.sp ≤ 0x2000

pub ready_as : (open_to : ℕ → Bool) (v s : State) → Same open_to v s → IsReady s → IsReady v
ready_as open_to v s l r = record {
  may = ap (λ (x : Regs). not (has x.ccr interrupts_masked)) l.regs ∙ r.may;
  temps = l.temps ∙ r.temps;
  size = l.mem.size ∙ r.size;
  fits = subst FitsRegs (sym l.regs) r.fits;
  low = subst (λ (x : Regs). 0x1FE9 ≤ x.sp) (sym l.regs) r.low;
  high = subst (λ (x : Regs). x.sp ≤ 0x2000) (sym l.regs) r.high;
}

pub same_with : (open_to : ℕ → Bool) (a b c : State) → Same open_to a b → Same open_to b c → Same open_to a c
same_with open_to a b c x y = record {
  regs = x.regs ∙ y.regs;
  temps = x.temps ∙ y.temps;
  mem = agree_with (is_hidden open_to c.regs.sp) a.mem b.mem c.mem
      (subst (λ (r : Regs). Agree (is_hidden open_to r.sp) a.mem b.mem) y.regs x.mem) y.mem;
}

-- which sample waits behind posts
pub waiting_last : (a : ℕ) (xs : List Post) → waiting a xs ≡ last_of a (waiting 0 xs)
waiting_last a xs = elim (zero_or (waiting 0 xs)) [
  | inl z ↦ none_put a xs z ∙ sym (ap (last_of a) z)
  | inr some ↦ (let e : (waiting 0 xs == 0) ≡ false = grind (arith, nat_tests) in some_put a xs some ∙ sym (rw e refl))
]

same_or_none : (k : ℕ) → (if k == 0 then 0 else k) ≡ k
same_or_none zero = refl
same_or_none (suc k) = (let e : (suc k == 0) ≡ false = grind (arith, nat_tests) in rw e refl)

within_by : (b : Bool) (n w k : ℕ) → w ≤ n → k ≤ n → (if b then w else k) ≤ n
within_by true n w k h g = h
within_by false n w k h g = g

due_by : (b : Bool) (n m w : ℕ) (p : Post) (ps : List Post) → nat_le p.moment m ≡ b → w ≤ n
    → waiting (if p.sample == 0 then w else p.sample) (up_to m ps) ≤ n → waiting w (up_to m (p ∷ ps)) ≤ n
due_by true n m w p ps e h r = rw e r
due_by false n m w p ps e h r = rw e h

pub waits_within : (n m w : ℕ) (ps : List Post) → w ≤ n → AllGood (IsGoodPost n) ps → waiting w (up_to m ps) ≤ n
waits_within n m w [] h good = h
waits_within n m w (p ∷ ps) h good =
    let own = good.0 in
    due_by (nat_le p.moment m) n m w p ps refl h
    (waits_within n m (if p.sample == 0 then w else p.sample) ps
    (within_by (p.sample == 0) n w p.sample h own.sample_to) good.1)

module _ (laws : TakingLaws) (flags : ℕ) (f : Firmware) (samples : List (List ℕ)) (n g : ℕ) (box : IsBox f.memory_map n)
    (size : AreOfSize n samples) where
  abbrev form : TurnForm
  form = turn_form flags f samples g

  -- one post
  one_taken : (p : Post) (v : State) → IsReady v → IsGoodPost (length samples) p
      → Same is_free (taken form p v) (posted f.memory_map samples p.sample v)
  one_taken p v r good =
      let ws = post_writes f.memory_map samples p in
      let is : suspended wav v ≡ v = laws.pushes_none v (inl r.temps) in
      let open_to = open_post laws.writing f.memory_map n samples box size p good.sample_to good.free in
      let writing = laws.writing in
      let quiet : Same is_postable (framed ws v) v =
      writing.takes_quietly is_postable ws v leaves_stack open_to r.size r.fits r.low r.high in
      let here : Same is_free (framed ws v) (posted f.memory_map samples p.sample v) =
      record {
        regs = quiet.regs;
        temps = quiet.temps;
        mem =
            post_mailed laws.writing f.memory_map n samples box size p v good.sample_to good.free r.low r.high;
      } in
      subst (λ (x : State). Same is_free (framed ws x) (posted f.memory_map samples p.sample v)) (sym is) here

  pub record TookAll (m : ℕ) (qs : List Post) (v : State) : Type 0 where
    pub left : (takes form m qs v).left ≡ behind m qs
    pub told : asked (takes form m qs v).told ≡ up_to m qs
    pub frames : (takes form m qs v).frames ≡ map (λ p. (m, plain_frame v.regs)) (up_to m qs)
    pub same : Same is_free (takes form m qs v).state (posted f.memory_map samples (waiting 0 (up_to m qs)) v)

  due : (m : ℕ) (q : Post) (qs : List Post) (v : State) → nat_le q.moment m ≡ true → IsReady v
      → AllGood (IsGoodPost (length samples)) (q ∷ qs)
      → TookAll m qs (taken form q v) → TookAll m (q ∷ qs) v
  unfolding takes
  due m q qs v e r good rest =
      let v1 = taken form q v in
      let one = one_taken q v r good.0 in
      let own = good.0 in
      let b = takes form m qs v1 in
      let w = waiting 0 (up_to m qs) in
      let lw = waits_within (length samples) m 0 qs (omega arith) good.1 in
      let test : (may_interrupt v && nat_le q.moment m) ≡ true = ap₂ (λ (x y : Bool). x && y) r.may e in
      let is : takes form m (q ∷ qs) v ≡ put_take (m, frame_of v) (told form q v) b = rw test refl in
      let frame : frame_of v ≡ plain_frame v.regs = laws.frame_is_on_stack v r.size (omega (arith, r.high))
      ∙ ap (frame_on true v) r.temps in
      let over : Same is_free (posted f.memory_map samples w v1) (posted f.memory_map samples (last_of q.sample w) v) =
      record {
        regs = one.regs;
        temps = one.temps;
        mem =
            mailed_over laws.writing f.memory_map n samples box size (is_hidden is_free v.regs.sp) q.sample w v1.mem
            v.mem lw
            own.sample_to one.mem;
      } in
      let both : Same is_free b.state (posted f.memory_map samples (last_of q.sample w) v) =
      same_with is_free b.state (posted f.memory_map samples w v1) (posted f.memory_map samples (last_of q.sample w) v)
      rest.same over in
      let last : last_of q.sample w ≡ waiting 0 (q ∷ up_to m qs) =
      sym (ap (λ (k : ℕ). waiting k (up_to m qs)) (same_or_none q.sample) ∙ waiting_last q.sample (up_to m qs)) in
      record {
        left = ap (λ (k : Taking Post (Unit {0})). k.left) is ∙ rest.left ∙ sym (rw e refl);
        told = ap (λ (k : Taking Post (Unit {0})). asked k.told) is ∙ ap (λ (xs : List Post). q ∷ xs) rest.told
            ∙ sym (rw e refl);
        frames = ap (λ (k : Taking Post (Unit {0})). k.frames) is
            ∙ ap₂ (λ (x : FrameSeen) (xs : List (ℕ × FrameSeen)). (m, x) ∷ xs) frame
            (rest.frames ∙ ap (λ (x : Regs). map (λ p. (m, plain_frame x)) (up_to m qs)) one.regs)
            ∙ sym (rw e refl);
        same = subst (λ (k : Taking Post (Unit {0})). Same is_free k.state
            (posted f.memory_map samples (waiting 0 (up_to m (q ∷ qs))) v)) (sym is)
            (rw e (subst (λ (k : ℕ). Same is_free b.state (posted f.memory_map samples k v)) last both));
      }

  not_due : (m : ℕ) (q : Post) (qs : List Post) (v : State) → nat_le q.moment m ≡ false → IsReady v
      → TookAll m (q ∷ qs) v
  unfolding takes
  not_due m q qs v e r =
      let test : (may_interrupt v && nat_le q.moment m) ≡ false = ap₂ (λ (x y : Bool). x && y) r.may e in
      let is : takes form m (q ∷ qs) v ≡ record { state = v; frames = []; told = []; left = q ∷ qs } = rw test refl in
      record {
        left = ap (λ (k : Taking Post (Unit {0})). k.left) is ∙ sym (rw e refl);
        told = ap (λ (k : Taking Post (Unit {0})). asked k.told) is ∙ sym (rw e refl);
        frames = ap (λ (k : Taking Post (Unit {0})). k.frames) is ∙ sym (rw e refl);
        same = subst (λ (k : Taking Post (Unit {0})). Same is_free k.state
            (posted f.memory_map samples (waiting 0 (up_to m (q ∷ qs))) v)) (sym is)
            (rw e (record { regs = refl; temps = refl; mem = agree_self (is_hidden is_free v.regs.sp) v.mem }));
      }

  pub took_all : (m : ℕ) (qs : List Post) (v : State) → IsReady v → AllGood (IsGoodPost (length samples)) qs
      → TookAll m qs v
  unfolding takes
  took_all m [] v r good =
      record {
        left = refl;
        told = refl;
        frames = refl;
        same =
            record { regs = refl; temps = refl; mem = agree_self (is_hidden is_free v.regs.sp) v.mem };
      }
  took_all m (q ∷ qs) v r good =
      let own = good.0 in
      let one = one_taken q v r good.0 in
      let apart = mailed_apart laws.writing f.memory_map n samples box size is_free q.sample v.mem own.sample_to in
      let after : IsReady (posted f.memory_map samples q.sample v) =
      record { may = r.may; temps = r.temps; size = apart.size ∙ r.size; fits = r.fits; low = r.low; high = r.high } in
      by (nat_le q.moment m) refl
      (took_all m qs (taken form q v)
      (ready_as is_free (taken form q v) (posted f.memory_map samples q.sample v) one after) good.1)
    where
      by : (b : Bool) → nat_le q.moment m ≡ b → TookAll m qs (taken form q v) → TookAll m (q ∷ qs) v
      by true e rest = due m q qs v e r good rest
      by false e rest = not_due m q qs v e r

  -- no interrupt is taken where I is 1
  pub took_none : (m : ℕ) (qs : List Post) (v : State) → may_interrupt v ≡ false
      → takes form m qs v ≡ record { state = v; frames = []; told = []; left = qs }
  unfolding takes
  took_none m [] v e = refl
  took_none m (q ∷ qs) v e = (let test : (may_interrupt v && nat_le q.moment m) ≡ false = rw e refl in rw test refl)

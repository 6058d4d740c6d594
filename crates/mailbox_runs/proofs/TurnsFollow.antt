-- The run under posts is that of its turns.
use Rattle.mailbox_runs.proofs.Words.{[], ◌&&◌, ◌*◌, ◌++◌, ◌+◌, ◌-◌, ◌<◌, ◌∙◌, ◌∷◌, ◌≡◌, ◌≢◌, ◌≤◌, AllGood}
use Rattle.mailbox_runs.proofs.Words.{AllSimulate, answer_of, answers_by, AnswerSeen, ap, append-nil, append_assoc}
use Rattle.mailbox_runs.proofs.Words.{ap₂, AreOfSize, arith, asked, before_turns, begun, behind, Bool, bytes_of}
use Rattle.mailbox_runs.proofs.Words.{counted, drop, End, ended, false, Firmware, frames_after, frames_from}
use Rattle.mailbox_runs.proofs.Words.{frames_in, FrameSeen, get_or, given, has_moment, if◌then◌else◌, image_memory}
use Rattle.mailbox_runs.proofs.Words.{is_empty, is_free, is_inside, is_over, is_part, is_postable}
use Rattle.mailbox_runs.proofs.Words.{IsAnswerRun, IsAt, IsBox, IsGoodPost, IsIdleRun, length, List, mailed, map, max}
use Rattle.mailbox_runs.proofs.Words.{nat_le, nat_tests, no_turn, None, one_if, OnStackOnly, part_taken}
use Rattle.mailbox_runs.proofs.Words.{places, plain_frame, Post, posted, Ran, refl, resumed_in, resumed_of, run_from}
use Rattle.mailbox_runs.proofs.Words.{run_of_turns, RunSeen, Same, State, subst, suc, sym, taken_from, takes}
use Rattle.mailbox_runs.proofs.Words.{then_turns, true, Turn, turn_form, turn_from, TurnEnds, TurnLaws, turns_from}
use Rattle.mailbox_runs.proofs.Words.{uninterrupted, up_to, values_in, waiting, waits_by, zero, ℕ}
use Rattle.std.specs.{Prelude.◌==◌}
use Rattle.mailbox_runs.specs.{Answering.SimulatesTurn}
use Rattle.mailbox_runs.proofs.{Posting.IsReady, Posting.waits_within}
use Rattle.mailbox_runs.proofs.Running.{run_over, run_on, waits_behind}
use Rattle.mailbox_runs.proofs.{CopyRuns.kind_plain, CopyRuns.copy_run, TurnViews.frames_seen, TurnViews.resumed_seen}
use Rattle.mailbox_runs.proofs.{Mailing.mailed_apart, IdleRuns.idle_turns_follow, AnswerRuns.good_behind}
use Rattle.mailbox_runs.proofs.{AnswerRuns.posted_turns_follow, Behind.values_alike}
use Rattle.mailbox_runs.proofs.LastOnes.{split, waiting_append, further, not_zero}
use Rattle.mailbox_runs.proofs.TakenLists.{Rise, rise_behind, frames_at, last_before, up_up, behind_up, behind_behind}
use Rattle.mailbox_runs.proofs.TwoSteps.{IsHere, here_at, Stands, Taken, taken_at as taken_here, posted_is, ready_shown}

-- a run by its parts
built : (a b : List AnswerSeen) (fs gs : List (ℕ × FrameSeen)) (r q : ℕ) (x y : RunSeen) → a ≡ b → fs ≡ gs → r ≡ q
    → x ≡ y → before_turns a fs r x ≡ before_turns b gs q y
built a b fs gs r q x y ea ef er ex =
    ap₂ (λ (c : List AnswerSeen) (hs : List (ℕ × FrameSeen)). before_turns c hs r x) ea ef
    ∙ ap₂ (λ (k : ℕ) (z : RunSeen). before_turns b gs k z) er ex

-- a turn that comes to its end, and the rest
turned : (f : Firmware) (samples : List (List ℕ)) (g v : ℕ) (fs : List (ℕ × FrameSeen)) (r : Ran Post (Unit {0}))
    (rest : ℕ → ℕ → List Post → State → RunSeen)
    (n i res : ℕ) (gs : List (ℕ × FrameSeen)) (ts l : List Post) (z : End) → TurnEnds r n i res gs ts l z
    → then_turns f samples g v fs r rest ≡ before_turns (answers_by f samples g v ts (g + n) i z.state) (fs ++ gs) res
    (rest (g + n) (waits_by g v ts) l z.state)
turned f samples g v fs r rest n i res gs ts l z h =
    let go : then_turns f samples g v fs r rest ≡ before_turns
    (answers_by f samples g v (asked r.told) (g + r.steps) r.instrs r.state) (fs ++ r.frames) r.resumed
    (rest (g + r.steps) (waits_by g v (asked r.told)) r.left r.state) =
    (let e = h.arrived in rw e refl) in
    go ∙ built _ _ _ _ _ _ _ _
    (ap₂ (λ (xs : List Post) (k : ℕ). answers_by f samples g v xs (g + k) r.instrs r.state) h.told_is h.steps
    ∙ ap₂ (λ (k : ℕ) (y : State). answers_by f samples g v ts (g + n) k y) h.instrs_are h.state)
    (ap (λ (x : List (ℕ × FrameSeen)). fs ++ x) h.frames_are) h.resumed_is
    (ap₂ (λ (k : ℕ) (xs : List Post). rest (g + k) (waits_by g v xs) r.left r.state) h.steps h.told_is
    ∙ ap₂ (λ (xs : List Post) (y : State). rest (g + n) (waits_by g v ts) xs y) h.left_is h.state)

-- posts that come up to where a turn begins
at_begin : (g : ℕ) (ps : List Post) → AllGood (λ p. max g p.moment ≡ g + 0) (up_to g ps)
at_begin g [] = tt
at_begin g (p ∷ ps) = by (nat_le p.moment g) refl (at_begin g ps)
  where
    by : (b : Bool) → nat_le p.moment g ≡ b → AllGood (λ q. max g q.moment ≡ g + 0) (up_to g ps)
        → AllGood (λ q. max g q.moment ≡ g + 0) (up_to g (p ∷ ps))
    by true e r = rw e (let le : p.moment ≤ g = grind (arith, nat_tests) in (omega arith, r))
    by false e r = rw e tt

-- and at one later boundary
pub at_later : (g j k : ℕ) (ps : List Post) → k ≡ g + j → Rise k ps → AllGood (λ p. max g p.moment ≡ g + j) (up_to k ps)
at_later g j k [] e r = tt
at_later g j k (p ∷ ps) e r = by (nat_le p.moment k) refl (at_later g j k ps e (let h = r.0 in later p.moment ps h r.1))
  where
    later : (m : ℕ) (qs : List Post) → k ≤ m → Rise m qs → Rise k qs
    later m [] le r = tt
    later m (q ∷ qs) le r = (omega (arith, r.0), r.1)

    by : (b : Bool) → nat_le p.moment k ≡ b → AllGood (λ q. max g q.moment ≡ g + j) (up_to k ps)
        → AllGood (λ q. max g q.moment ≡ g + j) (up_to k (p ∷ ps))
    by true d t = rw d (let le : p.moment ≤ k = grind (arith, nat_tests) in (omega (arith, e, le, r.0), t))
    by false d t = rw d tt

none_due : (g k : ℕ) (ps : List Post) → g < k → Rise k ps → up_to g ps ≡ []
none_due g k [] lt r = refl
none_due g k (p ∷ ps) lt r =
    (let e : nat_le p.moment g ≡ false = (let h = r.0 in grind (arith, nat_tests)) in rw e refl)

taken_on : (g : ℕ) (xs ys : List Post) → taken_from g (xs ++ ys) ≡ taken_from g xs ++ taken_from g ys
taken_on g [] ys = refl
taken_on g (x ∷ xs) ys = ap (λ (l : List (ℕ × Post)). (max g x.moment, x) ∷ l) (taken_on g xs ys)

none_resumed : {A : Type 0} (flags : ℕ) (moment : A → ℕ) (u : State) (xs : List A) (k : ℕ)
    → ((m : ℕ) → m < k → is_inside flags u m ≡ false) → resumed_of flags moment u xs k ≡ 0
none_resumed flags moment u xs zero h = refl
none_resumed flags moment u xs (suc k) h =
    let rest = none_resumed flags moment u xs k (λ m lt. h m (omega arith)) in
    let here : one_if (is_inside flags u k && has_moment moment k xs) ≡ 0 =
    ap (λ (b : Bool). one_if (b && has_moment moment k xs)) (h k (omega arith)) in
    omega (arith, rest, here)

some_left : (xs : List Post) → xs ≢ [] → is_empty xs ≡ false
some_left [] h = absurd (h refl)
some_left (x ∷ xs) h = refl

and_no : (b : Bool) → (b && false) ≡ false
and_no true = refl
and_no false = refl

abbrev turn : ℕ → ℕ → ℕ → List (ℕ × Post) → Turn
turn g k steps taken = record { begin = g; sample = k; steps = steps; taken = taken }

module _ (laws : TurnLaws) (flags : ℕ) (f : Firmware) (samples : List (List ℕ)) (n : ℕ) (box : IsBox f.memory_map n)
    (size : AreOfSize n samples) (last : ℕ) where
  abbrev image : List ℕ
  image = image_memory f.image.bytes

  abbrev run : ℕ → ℕ → ℕ → List Post → State → RunSeen
  run = turns_from flags f samples last

  -- where a turn begins
  pub record Begins (g w : ℕ) (posts : List Post) (s v : State) : Type 0 where
    pub within : w ≤ length samples
    pub good : AllGood (IsGoodPost (length samples)) posts
    pub rise : Rise g posts
    pub same : Same is_free v (posted f.memory_map samples w s)

  abbrev ready_at : (s : State) → IsAt image f.memory_map.wait s → IsReady s
  ready_at s at = (here_at image f.memory_map.wait s at).ready

  -- the posts that are taken there
  taken_there : (g w : ℕ) (posts : List Post) (s v : State) → Begins g w posts s v
      → (at : IsAt image f.memory_map.wait s)
      → Taken laws.posting.steps laws.posting.taking flags f samples n g image box size s.mem (ready_at s at).size s w g
      posts v
  taken_there g w posts s v h at =
      taken_here laws.posting.steps laws.posting.taking flags f samples n g image box size s.mem (ready_at s at).size s
      w g posts v (ready_at s at) h.within h.good h.same

  -- no sample waits, and no post is left
  pub over_turn : (m g w : ℕ) (posts : List Post) (s v : State) → Begins g w posts s v → IsAt image f.memory_map.wait s
      → get_or s.mem f.memory_map.sample_flag 0 ≡ 0
      → waiting w (up_to g posts) ≡ 0 → behind g posts ≡ []
      → run (suc m) g w posts v ≡ run_of_turns flags f samples
      (record { begin = g; sample = 0; steps = 0; taken = taken_from g posts } ∷ []) s
  over_turn m g w posts s v h at cleared none left =
      let r = ready_at s at in
      let taking = laws.posting.taking in
      let b = takes (turn_form flags f samples g) g posts v in
      let t = taken_there g w posts s v h at in
      let stands : Stands laws.posting.steps taking flags f samples n g image box size s.mem r.size s 0 b.state =
      subst (λ (x : ℕ). Stands laws.posting.steps taking flags f samples n g image box size s.mem r.size s x
      b.state) none t.stands in
      let sp = at.sp in
      let at_ready = box.ready in
      let free = ready_shown s.regs.sp f.memory_map.sample_flag at_ready in
      let zero_there : get_or b.state.mem f.memory_map.sample_flag 0 ≡ 0 = stands.mem.bytes f.memory_map.sample_flag free
      ∙ cleared in
      let done : is_over f.memory_map b ≡ true =
      ap₂ (λ (xs : List Post) (k : ℕ). is_empty xs && (k == 0)) (t.left ∙ left) zero_there in
      let all : up_to g posts ≡ posts = sym (append-nil (up_to g posts))
      ∙ ap (λ (xs : List Post). up_to g posts ++ xs) (sym left) ∙ split g posts in
      let due : AllGood (λ p. max g p.moment ≡ g + 0) posts =
      subst (AllGood (λ p. max g p.moment ≡ g + 0)) all (at_begin g posts) in
      let g0 : g + 0 ≡ g = omega arith in
      let fr : frames_from g (frames_after flags (λ p. p.0 - g) s None (taken_from g posts)) ≡ b.frames =
      ap (λ (xs : List (ℕ × Post)). frames_from g (frames_after flags (λ p. p.0 - g) s None xs))
      (sym (append-nil (taken_from g posts)))
      ∙ frames_at flags g 0 s s posts None [] due refl r.temps
      ∙ append-nil (map (λ p. (g + 0, plain_frame s.regs)) posts)
      ∙ ap (λ (k : ℕ). map (λ p. (k, plain_frame s.regs)) posts) g0
      ∙ ap (λ (xs : List Post). map (λ p. (g, plain_frame s.regs)) xs) (sym all) ∙ sym t.frames in
      run_over flags f samples last m g w posts v done
      ∙ ap (λ (xs : List (ℕ × FrameSeen)). no_turn true xs 0)
      (sym fr ∙ sym (append-nil (frames_from g (frames_after flags (λ p. p.0 - g) s None (taken_from g posts)))))

  -- the turn under posts
  abbrev turn_under : ℕ → List Post → State → Ran Post (Unit {0})
  turn_under = turn_from flags f samples last

  -- what a turn comes to
  pub record Next (m g w : ℕ) (posts : List Post) (s v : State) (t : Turn) (g2 w2 : ℕ)
      (posts2 : List Post) : Type 0 where
    pub state : State
    pub ends : (turn_under g posts v).state ≡ state
    pub left : (turn_under g posts v).left ≡ posts2
    pub simulates : t.sample ≢ 0 → SimulatesTurn flags f t (begun f samples t s) (turn_under g posts v)
    pub begins : Begins g2 w2 posts2 (ended flags f samples t s) state
    pub goes : run (suc m) g w posts v ≡ before_turns (answer_of flags f samples t s) (frames_in flags f samples t s)
        (resumed_in flags f samples t s) (run m g2 w2 posts2 state)

  pub idle_turn : (m g w : ℕ) (posts : List Post) (s v : State) → Begins g w posts s v → IsAt image f.memory_map.wait s
      → g + 2 ≤ last
      → waiting w (up_to g posts) ≡ 0 → behind g posts ≢ [] → IsIdleRun f flags s
      → IsAt image f.memory_map.wait (uninterrupted flags 2 s)
      → Next m g w posts s v (turn g 0 2 (taken_from g (up_to (g + 1) posts))) (g + 2) (waiting w (up_to (g + 1) posts))
      (behind (g + 1) posts)
  idle_turn m g w posts s v h at bound none some idle_run end =
      let r = ready_at s at in
      let taking = laws.posting.taking in
      let form = turn_form flags f samples g in
      let b = takes form g posts v in
      let tk = taken_there g w posts s v h at in
      let q0 = behind g posts in
      let a0 = up_to g posts in
      let a1 = up_to (g + 1) q0 in
      let on : is_over f.memory_map b ≡ false =
      ap (λ (xs : List Post). is_empty xs && (get_or b.state.mem f.memory_map.sample_flag 0 == 0)) tk.left
      ∙ ap (λ (x : Bool). x && (get_or b.state.mem f.memory_map.sample_flag 0 == 0)) (some_left q0 some) in
      let st = tk.stands in
      let st0 : Same is_free b.state (record s { mem = mailed f.memory_map samples 0 s.mem }) =
      subst (λ (x : ℕ). Same is_free b.state (record s { mem = mailed f.memory_map samples x s.mem })) none st in
      let same0 : Same is_free b.state s = record { regs = st0.regs; temps = st0.temps; mem = st0.mem } in
      let rise0 : Rise (suc g) q0 = rise_behind g g posts h.rise in
      let due0 : up_to g q0 ≡ [] = none_due g (suc g) q0 (omega arith) rise0 in
      let good0 = good_behind (IsGoodPost (length samples)) g posts h.good in
      let res = idle_turns_follow laws.posting.steps taking flags f samples n g (last - g) s b.state q0 box size
      (omega arith) at end good0 due0 same0 idle_run in
      let rest = run m in
      let e1 = run_on flags f samples last m g w posts v on in
      let told : waiting w (asked b.told) ≡ 0 = ap (waiting w) tk.told ∙ none in
      let e2 = ap₂ (λ (x : ℕ) (xs : List Post). then_turns f samples g x b.frames
      (run_from form (last - g) g false xs b.state) rest) told tk.left in
      let e3 = turned f samples g 0 b.frames (run_from form (last - g) g false q0 b.state) rest 2 2 0 _ a1
      (behind (g + 1) q0) _ res.ends in
      let ran : turn_under g posts v ≡ run_from form (last - g) g false q0 b.state =
      ap (λ (xs : List Post). run_from form (last - g) g false xs b.state) tk.left in
      let ends = res.ends in
      let w_is : waiting 0 a1 ≡ waiting w (up_to (g + 1) posts) =
      sym (ap (waiting w) (further g (g + 1) posts (omega arith)) ∙ waiting_append w a0 a1
      ∙ ap (λ (x : ℕ). waiting x a1) none) in
      let left_is : behind (g + 1) q0 ≡ behind (g + 1) posts = behind_behind g (g + 1) posts (omega arith) in
      let look = idle_run.look in
      let looked_at = look.at in
      let looked_here = here_at image (f.memory_map.wait + 3) idle_run.looked look.at in
      let lr = looked_here.ready in
      let step = look.step in
      let inside : (k : ℕ) → k < 2 → is_inside flags s k ≡ false =
      outside_two s (ap is_part (kind_plain laws.posting.steps flags _ s idle_run.looked r.temps step.step)) in
      let no_resumed : resumed_of flags (λ p. p.0 - g) s (taken_from g (up_to (g + 1) posts)) 2 ≡ 0 =
      none_resumed flags (λ (p : ℕ × Post). p.0 - g) s (taken_from g (up_to (g + 1) posts)) 2 inside in
      let rise1 : Rise (g + 1) q0 = (let e : suc g ≡ g + 1 = omega arith in subst (λ (x : ℕ). Rise x q0) e rise0) in
      let g0 : g + 0 ≡ g = omega arith in
      let fr : frames_from g (frames_after flags (λ p. p.0 - g) s None (taken_from g (up_to (g + 1) posts))) ≡ b.frames
      ++ map (λ p. (g + 1, plain_frame (let t : State = idle_run.looked in t.regs))) a1 =
      ap (λ (xs : List (ℕ × Post)). frames_from g (frames_after flags (λ p. p.0 - g) s None xs))
      (ap (taken_from g) (further g (g + 1) posts (omega arith)) ∙ taken_on g a0 a1
      ∙ ap (λ (xs : List (ℕ × Post)). taken_from g a0 ++ xs) (sym (append-nil (taken_from g a1))))
      ∙ frames_at flags g 0 s s a0 None (taken_from g a1 ++ []) (at_begin g posts) refl r.temps
      ∙ ap₂ (λ (xs ys : List (ℕ × FrameSeen)). xs ++ ys)
      (ap (λ (k : ℕ). map (λ p. (k, plain_frame s.regs)) a0) g0 ∙ sym tk.frames)
      (frames_at flags g 1 s idle_run.looked a1 (last_before 0 None a0) [] (at_later g 1 (g + 1) q0 refl rise1)
      idle_run.first lr.temps
      ∙ append-nil (map (λ p. (g + 1, plain_frame (let t : State = idle_run.looked in t.regs))) a1)) in
      record {
        state = res.last;
        ends = ap (λ (x : Ran Post (Unit {0})). x.state) ran ∙ ends.state;
        left = ap (λ (x : Ran Post (Unit {0})). x.left) ran ∙ ends.left_is ∙ left_is;
        simulates = λ some_sample. absurd (some_sample refl);
        begins = record {
          within = waits_within (length samples) (g + 1) w posts h.within h.good;
          good = good_behind (IsGoodPost (length samples)) (g + 1) posts h.good;
          rise = (let e : suc (g + 1) ≡ g + 2 = omega arith in
              subst (λ (x : ℕ). Rise x (behind (g + 1) posts)) e (rise_behind g (g + 1) posts h.rise));
          same = subst (λ (x : ℕ). Same is_free res.last (posted f.memory_map samples x (uninterrupted flags 2 s))) w_is
              res.mailed;
        };
        goes = e1 ∙ e2 ∙ e3
            ∙ built [] [] _ _ 0 (resumed_of flags (λ p. p.0 - g) s (taken_from g (up_to (g + 1) posts)) 2) _ _ refl
            (sym fr) (sym no_resumed)
            (ap₂ (λ (x : ℕ) (xs : List Post). rest (g + 2) x xs res.last) w_is left_is);
      }
    where
      outside_two : (s : State) → is_inside flags s 1 ≡ false → (k : ℕ) → k < 2 → is_inside flags s k ≡ false
      outside_two s e zero lt = refl
      outside_two s e (suc zero) lt = e
      outside_two s e (suc (suc k)) lt = absurd (omega arith)

  -- a sample's turn begins in the state in which it is posted
  given_is : (k : ℕ) (s : State) → 1 ≤ k → given f.memory_map (bytes_of samples k) s ≡ posted f.memory_map samples k s
  given_is k s h = (let e : (k == 0) ≡ false = grind (arith, nat_tests) in rw e refl)

  begun_is : (b : Bool) (k : ℕ) (s : State) → (k == 0) ≡ b → 1 ≤ k
      → (if b then s else given f.memory_map (bytes_of samples k) s) ≡ posted f.memory_map samples k s
  begun_is true k s e h = absurd (grind (arith, nat_tests))
  begun_is false k s e h = given_is k s h

  nonzero : (k : ℕ) → 1 ≤ k → (k == 0) ≡ false
  nonzero k h = grind (arith, nat_tests)

  -- a turn that answers
  module _ (outputs : f.memory_map.outputs + places f.width * f.outputs ≤ 0x1020) (inputs : f.inputs ≡ n)
      (m g w all : ℕ) (posts : List Post) (s v : State)
      (h : Begins g w posts s v) (at : IsAt image f.memory_map.wait s) (bound : g + all ≤ last)
      (waits : waiting w (up_to g posts) ≢ 0) where
    abbrev k0 : ℕ
    k0 = waiting w (up_to (g + 2) posts)

    abbrev u : State
    u = posted f.memory_map samples k0 s

    abbrev q0 : List Post
    q0 = behind g posts

    abbrev a0 : List Post
    a0 = up_to g posts

    abbrev a1 : List Post
    a1 = up_to (g + 1) q0

    abbrev q1 : List Post
    q1 = behind (g + 1) q0

    abbrev a2 : List Post
    a2 = up_to (g + 2) q1

    abbrev q2 : List Post
    q2 = behind (g + 2) q1

    abbrev e : ℕ
    e = g + all - 1

    abbrev c2 : List Post
    c2 = up_to e q2

    early : waiting (waiting (waiting w a0) a1) a2 ≡ k0
    early = sym (ap (waiting w)
        (further g (g + 2) posts (omega arith)
        ∙ ap (λ (xs : List Post). a0 ++ xs) (further (g + 1) (g + 2) q0 (omega arith)))
        ∙ waiting_append w a0 (a1 ++ a2) ∙ waiting_append (waiting w a0) a1 a2)

    abbrev seen_from : State → AnswerSeen
    seen_from x = record {
      sample = k0;
      at = g + all;
      bytes = bytes_of samples k0;
      values =
          values_in f (uninterrupted flags all x);
      instrs = counted flags all x;
    }

    abbrev later_frames : IsAnswerRun f flags all u → List (ℕ × FrameSeen)
    later_frames run1 =
        map (λ p. (g + 1, plain_frame (let t : State = run1.looked in t.regs))) a1
        ++ (map (λ p. (g + 2, plain_frame (let t : State = run1.chosen in t.regs))) a2
        ++ frames_from g (frames_after flags (part_taken flags g all u) u None c2))

    abbrev shown : Turn
    shown = turn g k0 all
        (taken_from g (up_to (g + 2) posts) ++ taken_from (g + 5 + n) (up_to e (behind (g + 2) posts)))

    answer_turn : 1 ≤ k0 → (run1 : IsAnswerRun f flags all u) → IsAt image f.memory_map.wait (uninterrupted flags all u)
        → (z : State) × (Begins (g + all) (waiting 0 c2) (behind e q2) (uninterrupted flags all u) z)
        × (run (suc m) g w posts v ≡ before_turns (seen_from u ∷ [])
        (map (λ p. (g, plain_frame s.regs)) a0
        ++ (map (λ p. (g + 1, plain_frame (let t : State = run1.looked in t.regs))) a1
        ++ (map (λ p. (g + 2, plain_frame (let t : State = run1.chosen in t.regs))) a2
        ++ frames_from g (frames_after flags (part_taken flags g all u) u None c2))))
        (resumed_of flags (part_taken flags g all u) u q2 all) (run m (g + all) (waiting 0 c2) (behind e q2) z))
        × ((turn_under g posts v).state ≡ z) × ((turn_under g posts v).left ≡ behind e q2)
        × SimulatesTurn flags f shown u (turn_under g posts v)
    answer_turn some0 run1 end =
        let r = ready_at s at in
        let taking = laws.posting.taking in
        let form = turn_form flags f samples g in
        let b = takes form g posts v in
        let tk = taken_there g w posts s v h at in
        let v0 = waiting w a0 in
        let some : 1 ≤ v0 = not_zero v0 waits in
        let le0 = waits_within (length samples) g w posts h.within h.good in
        let lk0 = waits_within (length samples) (g + 2) w posts h.within h.good in
        let st = tk.stands in
        let ready = box.ready in
        let sp = at.sp in
        let free = ready_shown s.regs.sp f.memory_map.sample_flag ready in
        let one : get_or b.state.mem f.memory_map.sample_flag 0 ≡ 1 = st.mem.bytes f.memory_map.sample_flag free
        ∙ posted_is laws.posting.steps taking flags f samples n g image box size s.mem r.size v0 some le0 in
        let on : is_over f.memory_map b ≡ false = ap (λ (x : ℕ). is_empty b.left && (x == 0)) one
        ∙ and_no (is_empty b.left) in
        let rise0 : Rise (suc g) q0 = rise_behind g g posts h.rise in
        let rise1 : Rise (g + 1) q0 = (let d : suc g ≡ g + 1 = omega arith in subst (λ (x : ℕ). Rise x q0) d rise0) in
        let due0 : up_to g q0 ≡ [] = none_due g (suc g) q0 (omega arith) rise0 in
        let good0 = good_behind (IsGoodPost (length samples)) g posts h.good in
        let good1 = good_behind (IsGoodPost (length samples)) (g + 1) q0 good0 in
        let good2 = good_behind (IsGoodPost (length samples)) (g + 2) q1 good1 in
        let res = posted_turns_follow laws flags f samples n g (last - g) all v0 k0 s b.state q0 box size outputs inputs
        (omega arith) at some le0 some0 lk0 (sym early) end good0 rise1 due0 st run1 in
        let rest = run m in
        let e1 = run_on flags f samples last m g w posts v on in
        let e2 = ap₂ (λ (x : ℕ) (xs : List Post). then_turns f samples g x b.frames
        (run_from form (last - g) g false xs b.state) rest) (ap (waiting w) tk.told) tk.left in
        let ts = a1 ++ (a2 ++ c2) in
        let e3 = turned f samples g v0 b.frames (run_from form (last - g) g false q0 b.state) rest all
        (counted flags all u) (resumed_of flags (part_taken flags g all u) u q2 all) _ ts
        (behind e q2) _ res.ends in
        let q2_is : behind (g + 2) q0 ≡ q2 = sym (behind_behind (g + 1) (g + 2) q0 (omega arith)) in
        let late = run1.behind in
        let ts_is : up_to e q0 ≡ ts = further (g + 1) e q0 (omega arith)
        ∙ ap (λ (xs : List Post). a1 ++ xs) (further (g + 2) e q1 (omega arith)) in
        let first : up_to (g + 2) ts ≡ a1 ++ a2 = ap (up_to (g + 2)) (sym ts_is) ∙ up_up e (g + 2) q0 (omega arith)
        ∙ further (g + 1) (g + 2) q0 (omega arith) in
        let second : behind (g + 2) ts ≡ c2 = ap (behind (g + 2)) (sym ts_is) ∙ behind_up e (g + 2) q0 (omega arith)
        ∙ ap (up_to e) q2_is in
        let k_is : waiting v0 (up_to (g + 2) ts) ≡ k0 = ap (waiting v0) first ∙ waiting_append v0 a1 a2 ∙ early in
        let same = res.same in
        let values : values_in f res.last ≡ values_in f (uninterrupted flags all u) =
        values_alike f.width res.last.mem (uninterrupted flags all u).mem
        (uninterrupted flags all u).regs.sp f.memory_map.outputs f.outputs same.mem outputs in
        let ans : answers_by f samples g v0 ts (g + all) (counted flags all u) res.last ≡ seen_from u ∷ [] =
        answered_by v0 ts (counted flags all u) res.last (nonzero v0 some)
        ∙ ap₂ (λ (x : ℕ) (vs : List ℕ). record
        { sample = x; at = g + all; bytes = bytes_of samples x; values = vs; instrs = counted flags all u } ∷ [])
        k_is values in
        let wt : waits_by g v0 ts ≡ waiting 0 c2 = waits_behind g v0 ts (λ z. omega (arith, z, some))
        ∙ ap (waiting 0) second in
        let ran : turn_under g posts v ≡ run_from form (last - g) g false q0 b.state =
        ap (λ (xs : List Post). run_from form (last - g) g false xs b.state) tk.left in
        let ends = res.ends in
        let count : f.inputs + 5 ≡ all - (all - (f.inputs + 5)) = omega (arith, late) in
        let behind_is : drop (f.inputs + 5) (run_from form (last - g) g false q0 b.state).states ≡ res.late =
        ap (λ (k : ℕ). drop k (run_from form (last - g) g false q0 b.state).states) count ∙ ends.states_are in
        let le2 = waits_within (length samples) e 0 q2 (omega arith) good2 in (
          res.last,
          record {
            within = le2;
            good = good_behind (IsGoodPost (length samples)) e q2 good2;
            rise = (let d : suc e ≡ g + all = omega arith in
                subst (λ (x : ℕ). Rise x (behind e q2)) d
                (rise_behind (suc (g + 2)) e q2
                (rise_behind (suc (g + 1)) (g + 2) q1 (rise_behind (g + 1) (g + 1) q0 rise1))));
            same = res.mailed;
          },
          e1 ∙ e2 ∙ e3 ∙ built _ _ _ _ _ _ _ _ ans
              (ap (λ (xs : List (ℕ × FrameSeen)). xs ++ later_frames run1) tk.frames) refl
              (ap (λ (x : ℕ). rest (g + all) x (behind e q2) res.last) wt),
          ap (λ (x : Ran Post (Unit {0})). x.state) ran ∙ ends.state,
          ap (λ (x : Ran Post (Unit {0})). x.left) ran ∙ ends.left_is,
          subst (SimulatesTurn flags f shown u) (sym ran) (record {
            arrived = ends.arrived;
            steps = ends.steps;
            simulates = subst (λ (xs : List State). AllSimulate OnStackOnly is_postable flags xs
                (uninterrupted flags (f.inputs + 5) u)) (sym behind_is) res.simulates;
            last = subst (λ (x : State). Same is_postable x (uninterrupted flags all u)) (sym ends.state) same;
          }),
        )
      where
        answered_by : (x : ℕ) (ts : List Post) (i : ℕ) (z : State) → (x == 0) ≡ false
            → answers_by f samples g x ts (g + all) i z
            ≡ record {
              sample = waiting x (up_to (g + 2) ts);
              at = g + all;
              bytes =
                  bytes_of samples (waiting x (up_to (g + 2) ts));
              values = values_in f z;
              instrs = i;
            } ∷ []
        answered_by x ts i z e = rw e refl

    q2_is : q2 ≡ behind (g + 2) posts
    q2_is = behind_behind (g + 1) (g + 2) q0 (omega arith) ∙ behind_behind g (g + 2) posts (omega arith)

    taken_is : taken_from g (up_to (g + 2) posts) ++ taken_from (g + 5 + n) (up_to e (behind (g + 2) posts))
        ≡ taken_from g a0 ++ (taken_from g a1 ++ (taken_from g a2 ++ taken_from (g + 5 + n) c2))
    taken_is =
        ap₂ (λ (xs ys : List (ℕ × Post)). xs ++ ys)
        (ap (taken_from g) (further g (g + 2) posts (omega arith)
        ∙ ap (λ (xs : List Post). a0 ++ xs) (further (g + 1) (g + 2) q0 (omega arith))) ∙ taken_on g a0 (a1 ++ a2)
        ∙ ap (λ (xs : List (ℕ × Post)). taken_from g a0 ++ xs) (taken_on g a1 a2))
        (ap (λ (xs : List Post). taken_from (g + 5 + n) (up_to e xs)) (sym q2_is))
        ∙ append_assoc (taken_from g a0) (taken_from g a1 ++ taken_from g a2) (taken_from (g + 5 + n) c2)
        ∙ ap (λ (xs : List (ℕ × Post)). taken_from g a0 ++ xs)
        (append_assoc (taken_from g a1) (taken_from g a2) (taken_from (g + 5 + n) c2))

    -- the turn comes to what it is without interrupts
    pub answer_next : 1 ≤ k0 → IsAnswerRun f flags all (given f.memory_map (bytes_of samples k0) s)
        → IsAt image f.memory_map.wait (ended flags f samples shown s)
        → Next m g w posts s v shown (g + all) (waiting 0 (up_to e (behind (g + 2) posts)))
        (behind e (behind (g + 2) posts))
    answer_next some0 given_run end =
        let gu : given f.memory_map (bytes_of samples k0) s ≡ u = given_is k0 s some0 in
        let bu : begun f samples shown s ≡ u = begun_is (k0 == 0) k0 s refl some0 in
        let run1 : IsAnswerRun f flags all u = subst (λ (x : State). IsAnswerRun f flags all x) gu given_run in
        let end1 : IsAt image f.memory_map.wait (uninterrupted flags all u) =
        subst (λ (x : State). IsAt image f.memory_map.wait (uninterrupted flags all x)) bu end in
        let r = answer_turn some0 run1 end1 in
        let here = here_at image f.memory_map.wait s at in
        let hr = here.ready in
        let taking = laws.posting.taking in
        let writing = taking.writing in
        let lk0 = waits_within (length samples) (g + 2) w posts h.within h.good in
        let apart = mailed_apart writing f.memory_map n samples box size is_free k0 s.mem lk0 in
        let here_u : IsHere u =
        record {
          ready = record {
            may = hr.may;
            temps = hr.temps;
            size = apart.size ∙ hr.size;
            fits = hr.fits;
            low = hr.low;
            high =
                hr.high;
          };
          code = here.code;
          sp = here.sp;
        } in
        let c = copy_run laws.posting.steps flags f n all inputs u here_u run1 in
        let look = run1.look in
        let h1 = here_at image (f.memory_map.wait + 3) run1.looked look.at in
        let h2 = here_at image (f.memory_map.wait + 5) run1.chosen run1.on in
        let r1 = h1.ready in
        let r2 = h2.ready in
        let rise0 : Rise (g + 1) q0 =
        (let d : suc g ≡ g + 1 = omega arith in subst (λ (x : ℕ). Rise x q0) d (rise_behind g g posts h.rise)) in
        let rise1 : Rise (g + 2) q1 =
        (let d : suc (g + 1) ≡ g + 2 = omega arith in
        subst (λ (x : ℕ). Rise x q1) d (rise_behind (g + 1) (g + 1) q0 rise0)) in
        let rise2 : Rise (g + 3) q2 =
        (let d : suc (g + 2) ≡ g + 3 = omega arith in
        subst (λ (x : ℕ). Rise x q2) d (rise_behind (g + 2) (g + 2) q1 rise1)) in
        let fr = frames_seen laws.first_open flags n all g u c run1.looked run1.chosen run1.first run1.second hr.temps
        r1.temps r2.temps a0 a1 a2 q2 (at_begin g posts) (at_later g 1 (g + 1) q0 refl rise0)
        (at_later g 2 (g + 2) q1 refl rise1) rise2 in
        let rs = resumed_seen laws.first_open flags n all g u c run1.looked run1.chosen run1.first run1.second hr.temps
        r1.temps r2.temps a0 a1 a2 q2 (at_begin g posts) (at_later g 1 (g + 1) q0 refl rise0)
        (at_later g 2 (g + 2) q1 refl rise1) rise2 in
        let g0 : g ≡ g + 0 = omega arith in
        let nz = nonzero k0 some0 in
        let ended_u : uninterrupted flags all u ≡ ended flags f samples shown s =
        ap (uninterrupted flags all) (sym bu) in
        let ans : seen_from u ∷ [] ≡ answer_of flags f samples shown s =
        ap (λ (x : State). seen_from x ∷ []) (sym bu) ∙ answered_shown nz in
        let frames : map (λ p. (g, plain_frame s.regs)) a0 ++ later_frames run1 ≡ frames_in flags f samples shown s =
        ap (λ (k : ℕ). map (λ p. (k, plain_frame s.regs)) a0 ++ later_frames run1) g0 ∙ sym fr
        ∙ ap₂ (λ (x : State) (xs : List (ℕ × Post)). frames_from g (frames_after flags (λ p. p.0 - g) x None xs))
        (sym bu) (sym taken_is) in
        let resumed : resumed_of flags (part_taken flags g all u) u q2 all ≡ resumed_in flags f samples shown s =
        sym rs ∙ ap₂ (λ (x : State) (xs : List (ℕ × Post)). resumed_of flags (λ p. p.0 - g) x xs all) (sym bu)
        (sym taken_is) in
        record {
          state = r.0;
          ends = r.3;
          left = r.4 ∙ ap (behind e) q2_is;
          simulates = λ some_sample. subst (λ (x : State). SimulatesTurn flags f shown x (turn_under g posts v))
              (sym bu) r.5;
          begins = subst (λ (xs : List Post). Begins (g + all) (waiting 0 (up_to e xs)) (behind e xs)
              (ended flags f samples shown s) r.0) q2_is
              (subst (λ (x : State). Begins (g + all) (waiting 0 c2) (behind e q2) x r.0) ended_u r.1);
          goes = r.2 ∙ built _ _ _ _ _ _ _ _ ans frames resumed
              (ap (λ (xs : List Post). run m (g + all) (waiting 0 (up_to e xs)) (behind e xs) r.0) q2_is);
        }
      where
        answered_shown : (k0 == 0) ≡ false
            → seen_from (begun f samples shown s) ∷ [] ≡ answer_of flags f samples shown s
        answered_shown nz = by (k0 == 0) nz
          where
            by : (b : Bool) → b ≡ false → seen_from (begun f samples shown s) ∷ []
                ≡ (if b then [] else seen_from (begun f samples shown s) ∷ [])
            by true z = cc
            by false z = refl

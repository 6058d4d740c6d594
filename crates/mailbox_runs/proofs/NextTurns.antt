-- A run by its next turn: where it is over, and where the turn comes to its end or to none.
use Rattle.mailbox_runs.proofs.Words.{[], ◌&&◌, ◌++◌, ◌+◌, ◌-◌, ◌==◌, ◌∙◌, ◌≡◌, ◌≤◌, answers_by, AnswerSeen, ap}
use Rattle.mailbox_runs.proofs.Words.{append-nil, append_assoc, ap₂, arith, asked, before_turns, Bool, drop}
use Rattle.mailbox_runs.proofs.Words.{false, Firmware, FrameSeen, is_empty, is_over, length, List, no_turn, notes_of}
use Rattle.mailbox_runs.proofs.Words.{Post, Ran, refl, run_from, RunSeen, slice_index, State, suc, sym, take, takes}
use Rattle.mailbox_runs.proofs.Words.{Taking, TakingSummary, then_turns, true, turn_form, turns_from, waiting}
use Rattle.mailbox_runs.proofs.Words.{waits_by, with_before}
use Rattle.mailbox_runs.proofs.Words.{with_rest, zero, ℕ}
use Rattle.run_forms.specs.Rest.{SampleSummary, summary, after, rest_at}
use Rattle.mailbox_runs.specs.{Counts.Counted, Counts.counted_at}
use Rattle.run_forms.specs.declared.{sample.Notes.Notes, sample.Counts.Counts}
use Rattle.run_forms.specs.Rest as rest
use Rattle.run_forms.proofs.Algebra.{ran_told}
use Rattle.mailbox_runs.proofs.Running.{run_over, run_turn, slice_is}

-- A turn begins: what is due is taken, which leads from counts t and state s to t1 and s1, and then sample v waits,
-- where w did before.
pub record Begins (flags : ℕ) (f : Firmware) (samples : List (List ℕ)) (posts : List Post) (w v : ℕ)
    (t t1 : Counts (Notes (Unit {0})))
    (s s1 : State) : Type 0 where
  pub takes_are : with_before (notes_of.frames t.notes) (notes_of.told t.notes)
      (takes (turn_form flags f samples t.moment) t.moment (drop t.next posts) s)
      ≡ record {
        state = s1;
        frames = notes_of.frames t1.notes;
        told = notes_of.told t1.notes;
        left = drop t1.next posts;
      }
  pub waits : v ≡ waiting w (asked (takes (turn_form flags f samples t.moment) t.moment (drop t.next posts) s).told)
  pub begins : t1.moment ≡ t.moment
  pub fresh : (t1.inside ≡ false) × (t1.instrs ≡ 0) × (t1.resumed ≡ t.resumed)

-- the run of a turn that begins at boundary g, up to boundary `last`
abbrev pub turn_run : ℕ → Firmware → List (List ℕ) → ℕ → ℕ → List Post → State → Ran Post (Unit {0})
turn_run flags f samples last g qs s = run_from (turn_form flags f samples g) (last - g) g false qs s

-- what was counted, by its fields
counted : List AnswerSeen → List (ℕ × FrameSeen) → ℕ → Counted
counted answers frames resumed = record { answers = answers; frames = frames; resumed = resumed }

-- where the run r of a turn ended, which began at boundary g, behind these frames and tellings
pub record EndsWith (g resumed : ℕ) (us : List (Unit {0})) (fs : List (ℕ × FrameSeen)) (r : Ran Post (Unit {0}))
    (posts : List Post) (t2 : Counts (Notes (Unit {0}))) (s2 : State) : Type 0 where
  pub counted : rest.counted_at notes_of t2 s2 ≡ after 0 g resumed us fs (summary r)
  pub left : drop t2.next posts ≡ r.left

-- frames of a turn, behind those of its first boundary
all_frames : (fs bs rs ks fs1 fs2 : List (ℕ × FrameSeen)) → fs ++ bs ≡ fs1 → fs1 ++ rs ≡ fs2
    → fs ++ ((bs ++ rs) ++ ks) ≡ fs2 ++ ks
all_frames fs bs rs ks fs1 fs2 a b =
    ap (λ (l : List (ℕ × FrameSeen)). fs ++ l) (append_assoc bs rs ks)
    ∙ sym (append_assoc fs bs (rs ++ ks))
    ∙ ap (λ (l : List (ℕ × FrameSeen)). l ++ (rs ++ ks)) a
    ∙ sym (append_assoc fs1 rs ks)
    ∙ ap (λ (l : List (ℕ × FrameSeen)). l ++ ks) b

-- a turn comes to no end
stuck_by : (f : Firmware) (samples : List (List ℕ)) (g v : ℕ) (bs fs1 : List (ℕ × FrameSeen)) (r : Ran Post (Unit {0}))
    (rest : ℕ → ℕ → List Post → State → RunSeen) (posts : List Post) (t t2 : Counts (Notes (Unit {0}))) (s2 : State)
    (us : List (Unit {0})) (answers : List AnswerSeen)
    → notes_of.frames t.notes ++ bs ≡ fs1 → t2.arrived ≡ false → EndsWith g t.resumed us fs1 r posts t2 s2
    → with_rest answers t (then_turns f samples g v bs r rest) ≡ counted_at answers t2
unfolding counted
stuck_by f samples g v bs fs1 r rest posts t t2 s2 us answers before off is =
    let stays : r.arrived ≡ false = sym (ap (λ (k : SampleSummary (Unit {0})). k.arrived) is.counted) ∙ off in
    let frames : fs1 ++ r.frames ≡ notes_of.frames t2.notes =
    sym (ap (λ (k : SampleSummary (Unit {0})). k.frames) is.counted) in
    let resumed : t.resumed + r.resumed ≡ t2.resumed =
    sym (ap (λ (k : SampleSummary (Unit {0})). k.resumed) is.counted) in
    let go : then_turns f samples g v bs r rest ≡ no_turn false (bs ++ r.frames) r.resumed = rw stays refl in
    let all : notes_of.frames t.notes ++ (bs ++ r.frames) ≡ notes_of.frames t2.notes =
    sym (append_assoc (notes_of.frames t.notes) bs r.frames)
    ∙ ap (λ (l : List (ℕ × FrameSeen)). l ++ r.frames) before ∙ frames in
    ap (with_rest answers t) go
    ∙ ap (λ (xs : List AnswerSeen). counted xs (notes_of.frames t.notes ++ (bs ++ r.frames)) (t.resumed + r.resumed))
    (append-nil answers)
    ∙ ap₂ (λ (fs : List (ℕ × FrameSeen)) (k : ℕ). counted answers fs k) all resumed

-- a turn comes to its end, with these answers and this sample that waits there
turn_by : (f : Firmware) (samples : List (List ℕ)) (g v : ℕ) (bs fs1 : List (ℕ × FrameSeen)) (r : Ran Post (Unit {0}))
    (rest : ℕ → ℕ → List Post → State → RunSeen) (posts : List Post) (t t2 : Counts (Notes (Unit {0}))) (s2 : State)
    (us : List (Unit {0})) (answers answers2 : List AnswerSeen) (w2 : ℕ)
    → notes_of.frames t.notes ++ bs ≡ fs1 → t2.arrived ≡ true → EndsWith g t.resumed us fs1 r posts t2 s2
    → answers2 ≡ answers ++ answers_by f samples g v (asked r.told) t2.moment t2.instrs s2
    → w2 ≡ waits_by g v (asked r.told)
    → with_rest answers t (then_turns f samples g v bs r rest)
    ≡ with_rest answers2 t2 (rest t2.moment w2 (drop t2.next posts) s2)
unfolding counted
turn_by f samples g v bs fs1 r rest posts t t2 s2 us answers answers2 w2 before off is answers_are waits_are =
    let comes : r.arrived ≡ true = sym (ap (λ (k : SampleSummary (Unit {0})). k.arrived) is.counted) ∙ off in
    let frames : fs1 ++ r.frames ≡ notes_of.frames t2.notes =
    sym (ap (λ (k : SampleSummary (Unit {0})). k.frames) is.counted) in
    let resumed : t.resumed + r.resumed ≡ t2.resumed =
    sym (ap (λ (k : SampleSummary (Unit {0})). k.resumed) is.counted) in
    let at : t2.moment ≡ g + r.steps = ap (λ (k : SampleSummary (Unit {0})). k.steps) is.counted in
    let left : drop t2.next posts ≡ r.left = is.left in
    let state : s2 ≡ r.state = ap (λ (k : SampleSummary (Unit {0})). k.state) is.counted in
    let none_before : t2.instrs ≡ 0 + r.instrs = ap (λ (k : SampleSummary (Unit {0})). k.instrs) is.counted in
    let instrs : t2.instrs ≡ r.instrs = omega (arith, none_before) in
    let k : RunSeen = rest (g + r.steps) (waits_by g v (asked r.told)) r.left r.state in
    let same : k ≡ rest t2.moment w2 (drop t2.next posts) s2 =
    ap₂ (λ (x y : ℕ). rest x y r.left r.state) (sym at) (sym waits_are)
    ∙ ap₂ (λ (l : List Post) (u : State). rest t2.moment w2 l u) (sym left) (sym state) in
    let ans = answers_by f samples g v (asked r.told) (g + r.steps) r.instrs r.state in
    let ans_is : answers_by f samples g v (asked r.told) t2.moment t2.instrs s2 ≡ ans =
    ap₂ (λ (x y : ℕ). answers_by f samples g v (asked r.told) x y s2) at instrs
    ∙ ap (λ (u : State). answers_by f samples g v (asked r.told) (g + r.steps) r.instrs u) state in
    let go : then_turns f samples g v bs r rest ≡ before_turns ans (bs ++ r.frames) r.resumed k = rw comes refl in
    let all_of : notes_of.frames t.notes ++ ((bs ++ r.frames) ++ k.frames)
    ≡ notes_of.frames t2.notes ++ k.frames =
    all_frames (notes_of.frames t.notes) bs r.frames k.frames fs1 (notes_of.frames t2.notes) before frames in
    let sum : t.resumed + (r.resumed + k.resumed) ≡ t2.resumed + k.resumed = omega (arith, resumed) in
    let added : answers ++ (ans ++ k.answers) ≡ answers2 ++ k.answers =
    sym (append_assoc answers ans k.answers)
    ∙ ap (λ (l : List AnswerSeen). l ++ k.answers)
    (sym (answers_are ∙ ap (λ (l : List AnswerSeen). answers ++ l) ans_is)) in
    ap (with_rest answers t) go
    ∙ ap (λ (xs : List AnswerSeen). counted xs (notes_of.frames t.notes ++ ((bs ++ r.frames) ++ k.frames))
    (t.resumed + (r.resumed + k.resumed))) added
    ∙ ap₂ (λ (fs : List (ℕ × FrameSeen)) (j : ℕ). counted (answers2 ++ k.answers) fs j) all_of sum
    ∙ ap (λ (x : RunSeen). with_rest answers2 t2 x) same

module _ {flags : ℕ} {f : Firmware} {samples : List (List ℕ)} {posts : List Post} {w v : ℕ}
    {t t1 : Counts (Notes (Unit {0}))}
    {s s1 : State} (b : Begins flags f samples posts w v t t1 s s1) (last n : ℕ) (answers : List AnswerSeen) where
  -- the run is over here
  pub over_here : (is_empty (drop t1.next posts) && (slice_index s1.mem f.memory_map.sample_flag == 0)) ≡ true
      → with_rest answers t (turns_from flags f samples last (suc n) t.moment w (drop t.next posts) s)
      ≡ counted_at answers t1
  unfolding counted
  over_here e =
      let k : Taking Post (Unit {0}) = takes (turn_form flags f samples t.moment) t.moment (drop t.next posts) s in
      let es : k.state ≡ s1 = ap (λ (x : TakingSummary Post (Unit {0})). x.state) b.takes_are in
      let ef : notes_of.frames t.notes ++ k.frames ≡ notes_of.frames t1.notes =
      ap (λ (x : TakingSummary Post (Unit {0})). x.frames) b.takes_are in
      let el : k.left ≡ drop t1.next posts = ap (λ (x : TakingSummary Post (Unit {0})). x.left) b.takes_are in
      let on : is_over f.memory_map k ≡ true =
      ap₂ (λ (l : List Post) (u : State). is_empty l && (slice_index u.mem f.memory_map.sample_flag == 0)) el es ∙ e in
      let same = b.fresh.2 in
      let r : t.resumed + 0 ≡ t1.resumed = omega (arith, same) in
      ap (with_rest answers t) (run_over flags f samples last n t.moment w (drop t.next posts) s on)
      ∙ ap (λ (xs : List AnswerSeen). counted xs (notes_of.frames t.notes ++ k.frames) (t.resumed + 0))
      (append-nil answers)
      ∙ ap₂ (λ (fs : List (ℕ × FrameSeen)) (j : ℕ). counted answers fs j) ef r

  -- what its counts says in the end of the run of its turn
  turn_is : (i : ℕ) (t2 : Counts (Notes (Unit {0}))) (s2 : State) → i ≡ flags
      → rest.counted_at notes_of t2 s2
      ≡ rest_at notes_of (turn_form i f samples t.moment) (last - t1.moment) posts t1 s1
      → drop t2.next posts
      ≡ (run_from (turn_form i f samples t.moment) (last - t1.moment) t1.moment t1.inside (drop t1.next posts) s1).left
      → EndsWith t.moment t.resumed (notes_of.told t1.notes) (notes_of.frames t1.notes)
      (turn_run flags f samples last t.moment (drop t1.next posts) s1) posts t2 s2
  turn_is i t2 s2 ei is left =
      let run : ℕ → ℕ → Bool → Ran Post (Unit {0}) =
      λ k m inside. run_from (turn_form k f samples t.moment) (last - m) m inside (drop t1.next posts) s1 in
      let told = notes_of.told t1.notes in
      let frames = notes_of.frames t1.notes in
      let same : run i t1.moment t1.inside ≡ run flags t.moment false =
      ap (λ (k : ℕ). run k t1.moment t1.inside) ei ∙ ap₂ (λ (m : ℕ) (k : Bool). run flags m k) b.begins b.fresh.0 in
      record {
        counted = is ∙ ap (λ (r : Ran Post (Unit {0})). after t1.instrs t1.moment t1.resumed told
            frames (summary r)) same
            ∙ ap₂ (λ (j m : ℕ). after j m t1.resumed told frames
            (summary (run flags t.moment false))) b.fresh.1 b.begins
            ∙ ap (λ (r : ℕ). after 0 t.moment r told frames (summary (run flags t.moment false))) b.fresh.2;
        left = left ∙ ap (λ (r : Ran Post (Unit {0})). r.left) same;
      }

  -- the run goes on by its turn
  turn_goes : (is_empty (drop t1.next posts) && (slice_index s1.mem f.memory_map.sample_flag == 0)) ≡ false
      → turns_from flags f samples last (suc n) t.moment w (drop t.next posts) s
      ≡ then_turns f samples t.moment v
      (takes (turn_form flags f samples t.moment) t.moment (drop t.next posts) s).frames
      (turn_run flags f samples last t.moment (drop t1.next posts) s1) (turns_from flags f samples last n)
  turn_goes on =
      run_turn flags f samples last n t.moment w v (drop t.next posts) (drop t1.next posts) s s1
      (notes_of.frames t.notes) (notes_of.frames t1.notes) (notes_of.told t.notes) (notes_of.told t1.notes)
      b.takes_are b.waits on

  -- and comes to no end in it
  pub stuck_here : (i : ℕ) (t2 : Counts (Notes (Unit {0}))) (s2 : State)
      → (is_empty (drop t1.next posts) && (slice_index s1.mem f.memory_map.sample_flag == 0)) ≡ false
      → i ≡ flags → t2.arrived ≡ false
      → rest.counted_at notes_of t2 s2
      ≡ rest_at notes_of (turn_form i f samples t.moment) (last - t1.moment) posts t1 s1
      → drop t2.next posts
      ≡ (run_from (turn_form i f samples t.moment) (last - t1.moment) t1.moment t1.inside (drop t1.next posts) s1).left
      → with_rest answers t (turns_from flags f samples last (suc n) t.moment w (drop t.next posts) s)
      ≡ counted_at answers t2
  stuck_here i t2 s2 on ei off is left =
      ap (with_rest answers t) (turn_goes on)
      ∙ stuck_by f samples t.moment v
      (takes (turn_form flags f samples t.moment) t.moment (drop t.next posts) s).frames (notes_of.frames t1.notes)
      (turn_run flags f samples last t.moment (drop t1.next posts) s1) (turns_from flags f samples last n) posts t t2 s2
      (notes_of.told t1.notes) answers (ap (λ (k : TakingSummary Post (Unit {0})). k.frames) b.takes_are) off
      (turn_is i t2 s2 ei is left)

  -- or to its end, where these posts were taken behind its first boundary
  pub turn_here : (i : ℕ) (t2 : Counts (Notes (Unit {0}))) (s2 : State) (answers2 : List AnswerSeen) (w2 : ℕ)
      → (is_empty (drop t1.next posts) && (slice_index s1.mem f.memory_map.sample_flag == 0)) ≡ false
      → i ≡ flags → t2.arrived ≡ true
      → rest.counted_at notes_of t2 s2
      ≡ rest_at notes_of (turn_form i f samples t.moment) (last - t1.moment) posts t1 s1
      → drop t2.next posts
      ≡ (run_from (turn_form i f samples t.moment) (last - t1.moment) t1.moment t1.inside (drop t1.next posts) s1).left
      → (t1.next ≤ t2.next) × (t2.next ≤ length posts)
      → answers2 ≡ answers ++ answers_by f samples t.moment v (take (t2.next - t1.next) (drop t1.next posts)) t2.moment
      t2.instrs s2
      → w2 ≡ waits_by t.moment v (take (t2.next - t1.next) (drop t1.next posts))
      → with_rest answers t (turns_from flags f samples last (suc n) t.moment w (drop t.next posts) s)
      ≡ with_rest answers2 t2 (turns_from flags f samples last n t2.moment w2 (drop t2.next posts) s2)
  turn_here i t2 s2 answers2 w2 on ei off is left next answers_are waits_are =
      let g = t.moment in
      let r = turn_run flags f samples last g (drop t1.next posts) s1 in
      let turn = turn_is i t2 s2 ei is left in
      let told : asked r.told ++ drop t2.next posts ≡ drop t1.next posts =
      ap (λ (l : List Post). asked r.told ++ l) turn.left
      ∙ ran_told (turn_form flags f samples g) (last - g) g false (drop t1.next posts) s1 in
      let taken : take (t2.next - t1.next) (drop t1.next posts) ≡ asked r.told =
      slice_is posts (asked r.told) t1.next t2.next next.0 next.1 told in
      ap (with_rest answers t) (turn_goes on)
      ∙ turn_by f samples g v (takes (turn_form flags f samples g) g (drop t.next posts) s).frames
      (notes_of.frames t1.notes) r (turns_from flags f samples last n) posts t t2 s2
      (notes_of.told t1.notes) answers answers2 w2
      (ap (λ (k : TakingSummary Post (Unit {0})). k.frames) b.takes_are) off
      turn (answers_are ∙ ap (λ (l : List Post). answers ++ answers_by f samples g v l t2.moment t2.instrs s2) taken)
      (waits_are ∙ ap (λ (l : List Post). waits_by g v l) taken)

-- no turn more
pub none_left : (flags : ℕ) (f : Firmware) (samples : List (List ℕ)) (last n g w : ℕ) (qs : List Post) (s : State)
    (t : Counts (Notes (Unit {0}))) (answers : List AnswerSeen) → n ≡ 0
    → with_rest answers t (turns_from flags f samples last n g w qs s) ≡ counted_at answers t
unfolding turns_from counted
none_left flags f samples last zero g w qs s t answers z =
    let r : t.resumed + 0 ≡ t.resumed = omega arith in
    ap (λ (xs : List AnswerSeen). counted xs (notes_of.frames t.notes ++ []) (t.resumed + 0)) (append-nil answers)
    ∙ ap₂ (λ (fs : List (ℕ × FrameSeen)) (k : ℕ). counted answers fs k) (append-nil (notes_of.frames t.notes)) r
none_left flags f samples last (suc n) g w qs s t answers z = absurd (omega arith)

-- Turn after turn.
use Rattle.mailbox_runs.proofs.Words.{[], ◌*◌, ◌++◌, ◌+◌, ◌-◌, ◌<◌, ◌∙◌, ◌∷◌, ◌≡◌, ◌≢◌, ◌≤◌, AllGood, AllTurnRuns}
use Rattle.mailbox_runs.proofs.Words.{answer_of, answers, ap, AreOfSize, AreTurns, arith, before_turns, behind, Bool}
use Rattle.mailbox_runs.proofs.Words.{ended, false, Firmware, frames_in, idle, inl, inr, IsBox, IsGoodPost, length}
use Rattle.mailbox_runs.proofs.Words.{List, min, nat_le, nat_tests, over, places, Post, Ran, refl, resumed_in}
use Rattle.mailbox_runs.proofs.Words.{run_of_turns, RunsAreTurns, RunSeen, State, subst, suc, sym, taken_from, true}
use Rattle.mailbox_runs.proofs.Words.{Turn, turn_from, TurnLaws, turns_from, uninterrupted, up_to, waiting}
use Rattle.mailbox_runs.proofs.Words.{zero, ℕ}
use Rattle.mailbox_runs.specs.{Answering.SimulateTurns}
use Rattle.mailbox_runs.proofs.{TakenLists.Rise, TakenLists.rise_behind, AnswerRuns.good_behind}
use Rattle.mailbox_runs.proofs.LastOnes.{not_zero, some_answered, zero_or}
use Rattle.mailbox_runs.proofs.TurnsFollow.{Begins, over_turn, idle_turn, answer_next}

-- where posts are left, or came, the boundary is not far
left_by : (b : Bool) (g : ℕ) (p : Post) (ps : List Post) → nat_le p.moment g ≡ b → p.moment ≤ 1000000
    → (behind g ps ≢ [] → g < 1000000) → behind g (p ∷ ps) ≢ [] → g < 1000000
left_by true g p ps e m r some = r (λ z. some (rw e z))
left_by false g p ps e m r some = grind (arith, nat_tests)

left_near : (n g : ℕ) (ps : List Post) → AllGood (IsGoodPost n) ps → behind g ps ≢ [] → g < 1000000
left_near n g [] good some = absurd (some refl)
left_near n g (p ∷ ps) good some =
    (let own = good.0 in left_by (nat_le p.moment g) g p ps refl own.moment_to (left_near n g ps good.1) some)

came_near : (k n g w : ℕ) (ps : List Post) → AllGood (IsGoodPost n) ps → Rise k ps → w ≡ 0 → 1 ≤ waiting w (up_to g ps)
    → k ≤ 1000000
came_near k n g w [] good r z some = absurd (omega (arith, z, some))
came_near k n g w (p ∷ ps) good r z some = (let own = good.0 in let m = own.moment_to in omega (arith, m, r.0))

module _ (laws : TurnLaws) (flags : ℕ) (f : Firmware) (samples : List (List ℕ)) (n : ℕ) (box : IsBox f.memory_map n)
    (size : AreOfSize n samples) (last : ℕ)
    (outputs : f.memory_map.outputs + places f.width * f.outputs ≤ 0x1020) (inputs : f.inputs ≡ n) (bound : ℕ)
    (bound_is : bound ≡ f.step_bound) (some_bound : 1 ≤ bound) (room : 1000000 + 2 * bound ≤ last) where
  abbrev Here : ℕ → ℕ → List Post → State → State → Type 0
  Here = Begins laws flags f samples n box size last

  abbrev Goal : ℕ → ℕ → ℕ → List Post → List Turn → State → State → Type 0
  Goal m g w posts turns s v =
      (turns_from flags f samples last m g w posts v ≡ run_of_turns flags f samples turns s)
      × SimulateTurns flags f samples last turns posts v s

  -- those behind a turn, from where it ends
  behind_turn : (turns : List Turn) (r : Ran Post (Unit {0})) (posts : List Post) (v s : State) → r.left ≡ posts
      → r.state ≡ v → SimulateTurns flags f samples last turns posts v s
      → SimulateTurns flags f samples last turns r.left r.state s
  behind_turn turns r posts v s left state h =
      subst (λ (qs : List Post). SimulateTurns flags f samples last turns qs r.state s) (sym left)
      (subst (λ (x : State). SimulateTurns flags f samples last turns posts x s) (sym state) h)

  abbrev under : ℕ → List Post → State → Ran Post (Unit {0})
  under = turn_from flags f samples last

  abbrev then : Turn → State → RunSeen → RunSeen
  then t s x = before_turns (answer_of flags f samples t s) (frames_in flags f samples t s)
      (resumed_in flags f samples t s) x

  -- what is to be shown of the turns behind one
  abbrev Rest : (List ℕ → ℕ) → ℕ → Type 0
  Rest steps m = (g w : ℕ) (done : List ℕ) (posts : List Post) (turns : List Turn) (s v : State)
      → AreTurns n steps g w done posts turns → AllTurnRuns f flags samples turns s
      → Here g w posts s v → (1000001 - g) + min w 1 < m → (1 ≤ w → g ≤ 1000000 + bound) → Goal m g w posts turns s v

  abbrev answer_of_turn : ℕ → ℕ → ℕ → ℕ → List Post → Turn
  answer_of_turn g k steps end posts = record {
    begin = g;
    sample = k;
    steps = steps;
    taken = taken_from g (up_to (g + 2) posts) ++ taken_from (g + 5 + n) (up_to (end - 1) (behind (g + 2) posts));
  }

  answer_case : (steps : List ℕ → ℕ) (m g w : ℕ) (done : List ℕ) (posts : List Post) (later : List Turn) (s v : State)
      → Here g w posts s v → (1000001 - g) + min w 1 < suc m → (1 ≤ w → g ≤ 1000000 + bound)
      → waiting w (up_to g posts) ≢ 0 → Rest steps m
      → (let k = waiting w (up_to (g + 2) posts) in let all = steps (done ++ k ∷ []) in
      AreTurns n steps (g + all) (waiting 0 (up_to (g + all - 1) (behind (g + 2) posts))) (done ++ k ∷ [])
      (behind (g + all - 1) (behind (g + 2) posts)) later
      → AllTurnRuns f flags samples (answer_of_turn g k all (g + all) posts ∷ later) s
      → Goal (suc m) g w posts (answer_of_turn g k all (g + all) posts ∷ later) s v)
  answer_case steps m g w done posts later s v h few near waits rest are runs =
      let k = waiting w (up_to (g + 2) posts) in
      let all = steps (done ++ k ∷ []) in
      let one = runs.0 in
      let some = some_answered w g k posts waits refl in
      let given_run = one.answers (λ z. omega (arith, z, some)) in
      let within = given_run.within in
      let long = given_run.behind in
      let first = not_zero (waiting w (up_to g posts)) waits in
      let came : w ≡ 0 → g ≤ 1000000 = λ z. came_near g (length samples) g w posts h.good h.rise z first in
      let q2 = behind (g + 2) posts in
      let good2 = good_behind (IsGoodPost (length samples)) (g + 2) posts h.good in
      let rise2 : Rise (g + 3) q2 =
      (let d : suc (g + 2) ≡ g + 3 = omega arith in
      subst (λ (x : ℕ). Rise x q2) d (rise_behind g (g + 2) posts h.rise)) in
      let w2 = waiting 0 (up_to (g + all - 1) q2) in
      let later_near : 1 ≤ w2 → g + 3 ≤ 1000000 =
      λ x. came_near (g + 3) (length samples) (g + all - 1) 0 q2 good2 rise2 refl x in
      let from : g ≤ 1000000 + bound = elim (zero_or w) [ inl z ↦ (let c = came z in omega arith) | inr x ↦ near x ] in
      let nx = answer_next laws flags f samples n box size last outputs inputs m g w all posts s v h one.at
      (omega (arith, from, within, bound_is, room)) waits some given_run one.at_end in
      let fuel : (1000001 - (g + all)) + min w2 1 < m = elim (zero_or w2) [
        | inl z ↦ elim (zero_or w)
            [ inl y ↦ (let c = came y in omega (arith, z, c, few, long)) | inr y ↦ omega (arith, z, y, few, long) ]
        | inr x ↦ (let c = later_near x in omega (arith, c, few, long))
      ] in
      let ih = rest (g + all) w2 (done ++ k ∷ []) (behind (g + all - 1) q2) later
      (ended flags f samples (answer_of_turn g k all (g + all) posts) s) nx.state are runs.1 nx.begins fuel
      (λ x. (let c = later_near x in omega (arith, c, within, bound_is))) in (
        nx.goes ∙ ap (λ (x : RunSeen). then (answer_of_turn g k all (g + all) posts) s x) ih.0,
        (
          nx.simulates,
          behind_turn later (under g posts v) (behind (g + all - 1) q2) nx.state
              (ended flags f samples (answer_of_turn g k all (g + all) posts) s) nx.left nx.ends ih.1,
        ),
      )

  all_follow : (steps : List ℕ → ℕ) (m g w : ℕ) (done : List ℕ) (posts : List Post) (turns : List Turn) (s v : State)
      → AreTurns n steps g w done posts turns → AllTurnRuns f flags samples turns s
      → Here g w posts s v → (1000001 - g) + min w 1 < m → (1 ≤ w → g ≤ 1000000 + bound) → Goal m g w posts turns s v
  all_follow steps zero g w done posts turns s v are runs h few near = absurd (omega arith)
  all_follow steps (suc m) g w done posts turns s v (over g1 w1 d1 p1 t1 none left is) runs h few near =
      let r = subst (λ (ts : List Turn). AllTurnRuns f flags samples ts s) is runs in
      let one = r.0 in
      subst (λ (ts : List Turn). Goal (suc m) g w posts ts s v) (sym is) (
        over_turn laws flags f samples n box size last m g w posts s v h one.at one.cleared none left,
        (λ some. absurd (some refl), tt),
      )
  all_follow steps (suc m) g w done posts turns s v (idle g1 w1 d1 p1 t1 later none some rest is) runs h few near =
      let r = subst (λ (ts : List Turn). AllTurnRuns f flags samples ts s) is runs in
      let one = r.0 in
      let soon = left_near (length samples) g posts h.good some in
      elim (one.rests refl) [
        | inl stays ↦ absurd (omega (arith, stays))
        | inr goes ↦
            let nx = idle_turn laws flags f samples n box size last m g w posts s v h one.at
            (omega (arith, soon, room)) none some goes.1 one.at_end in
            let w2 = waiting w (up_to (g + 1) posts) in
            let small : min w2 1 ≤ 1 = omega arith in
            let ih = all_follow steps m (g + 2) w2 done (behind (g + 1) posts) later
            (uninterrupted flags 2 s) nx.state rest r.1 nx.begins (omega (arith, soon, few, small))
            (λ x. omega (arith, soon, some_bound)) in
            subst (λ (ts : List Turn). Goal (suc m) g w posts ts s v) (sym is) (
              nx.goes ∙ ap (λ (x : RunSeen). then
                  (record { begin = g; sample = 0; steps = 2; taken = taken_from g (up_to (g + 1) posts) }) s x) ih.0,
              (
                nx.simulates,
                behind_turn later (under g posts v) (behind (g + 1) posts) nx.state (uninterrupted flags 2 s) nx.left
                    nx.ends ih.1,
              ),
            )
      ]
  all_follow steps (suc m) g w done posts turns s v (answers g1 w1 d1 p1 t1 later k end waits k_is end_is rest is) runs
      h few near =
      let r = subst (λ (ts : List Turn). AllTurnRuns f flags samples ts s) is runs in
      let at_end : (j : ℕ) → j ≡ g + steps (done ++ waiting w (up_to (g + 2) posts) ∷ [])
      → Case (waiting w (up_to (g + 2) posts)) j =
      (λ j e. subst (λ (x : ℕ). Case (waiting w (up_to (g + 2) posts)) x) (sym e)
      (answer_case steps m g w done posts later s v h few near waits
      (λ g2 w2 done2 posts2 turns2 s2 v2 are2 runs2 h2 few2 near2. all_follow steps m g2 w2 done2 posts2 turns2 s2
      v2 are2 runs2 h2 few2 near2))) in
      let whole : Case k end =
      subst (λ (x : ℕ). end ≡ g + steps (done ++ x ∷ []) → Case x end) (sym k_is) (λ e. at_end end e) end_is in
      subst (λ (ts : List Turn). Goal (suc m) g w posts ts s v) (sym is) (whole rest r)
    where
      Case : ℕ → ℕ → Type 0
      Case x j = AreTurns n steps j (waiting 0 (up_to (j - 1) (behind (g + 2) posts))) (done ++ x ∷ [])
          (behind (j - 1) (behind (g + 2) posts)) later
          → AllTurnRuns f flags samples (answer_of_turn g x (steps (done ++ x ∷ [])) j posts ∷ later) s
          → Goal (suc m) g w posts (answer_of_turn g x (steps (done ++ x ∷ [])) j posts ∷ later) s v

pub runs_are_turns : TurnLaws → RunsAreTurns
runs_are_turns laws flags f samples n steps last most g w done posts turns s v box size outputs inputs some room are
    runs within good rise same few near =
    all_follow laws flags f samples n box size last outputs inputs f.step_bound refl some room steps most g w done posts
    turns s v are runs
    (record { within = within; good = good; rise = rise; same = same }) few near

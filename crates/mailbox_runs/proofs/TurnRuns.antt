-- A list of turns, one after another.
use Rattle.mailbox_runs.proofs.Words.{[], ◌++◌, ◌+◌, ◌-◌, ◌==◌, ◌∙◌, ◌∷◌, ◌≡◌, ◌≢◌, ◌≤◌, ◌⊎◌, All, AllTurnRuns}
use Rattle.mailbox_runs.proofs.Words.{answer, answer_in, answer_of, answered_alone, AnswerSeen, ap, ap₂}
use Rattle.mailbox_runs.proofs.Words.{AreInputBytes, arith, arrival, begun, Block, Bool, bytes_of, counted, ended}
use Rattle.mailbox_runs.proofs.Words.{FactsBeside, false, Firmware, given, HasSteps, HaveSteps, if◌then◌else◌, inl}
use Rattle.mailbox_runs.proofs.Words.{inr, is_postable, IsAnswerRun, IsIdleRun, length, List, map, nat_tests, refl}
use Rattle.mailbox_runs.proofs.Words.{run_of_turns, samples_of, State, steps_of, subst, suc, sym, true, Turn}
use Rattle.mailbox_runs.proofs.Words.{uninterrupted, values_in, zero, ℕ}
use Rattle.mailbox_runs.specs.{Runs.steps_from, Answering.AllKeepFacts, UninterruptedTurns.IsTurnRun}
use Rattle.firmware_code.specs.Uninterrupted.{AreAnswersTo}
use Rattle.mailbox_runs.proofs.Looking.{AreAlike, alike_self}
use Rattle.mailbox_runs.proofs.TurnSteps.{Setting, Waits, idled, Answered, answered}

-- the state behind samples that are answered one after another
abbrev pub chain : ℕ → Firmware → List (List ℕ) → State → List ℕ → State
chain flags f samples s [] = s
chain flags f samples s (k ∷ ks) = chain flags f samples (answered_alone flags f samples k s).state ks

chain_more : (flags : ℕ) (f : Firmware) (samples : List (List ℕ)) (s : State) (done : List ℕ) (k : ℕ)
    → chain flags f samples s (done ++ k ∷ []) ≡ (answered_alone flags f samples k (chain flags f samples s done)).state
chain_more flags f samples s [] k = refl
chain_more flags f samples s (d ∷ done) k = chain_more flags f samples (answered_alone flags f samples d s).state done k

steps_more : (flags : ℕ) (f : Firmware) (samples : List (List ℕ)) (s : State) (done : List ℕ) (k : ℕ)
    → steps_from flags f samples s (done ++ k ∷ [])
    ≡ (answered_alone flags f samples k (chain flags f samples s done)).steps
steps_more flags f samples s [] k = refl
steps_more flags f samples s (d ∷ []) k = refl
steps_more flags f samples s (d ∷ e ∷ done) k =
    steps_more flags f samples (answered_alone flags f samples d s).state (e ∷ done) k

-- the answers of turns from s, where the samples are answered from u
Answers : ℕ → Firmware → List (List ℕ) → List Turn → State → List ℕ → List AnswerSeen → State → Type 0
Answers flags f samples ts u xs ys v =
    AreAnswersTo f flags (map (bytes_of samples) xs)
    (map answer_in (ys ++ (run_of_turns flags f samples ts v).answers)) u

pub record AllRun (flags : ℕ) (f : Firmware) (samples : List (List ℕ)) (ts : List Turn) (s u : State) : Type 0 where
  pub runs : AllTurnRuns f flags samples ts s
  pub facts : AllKeepFacts flags f samples ts s
  pub answers : AreAnswersTo f flags (map (bytes_of samples) (samples_of ts))
      (map answer_in (run_of_turns flags f samples ts s).answers) u

some_or : (k : ℕ) → (k ≡ 0) ⊎ (1 ≤ k)
some_or zero = inl refl
some_or (suc k) = inr (omega arith)

-- whether a turn answers
is_none : (k : ℕ) → k ≡ 0 → (k == 0) ≡ true
is_none k z = ap (λ (j : ℕ). j == 0) z

is_some : (k : ℕ) → 1 ≤ k → (k == 0) ≡ false
is_some k h = grind (arith, nat_tests)

-- a turn from where the code waits back to there
turn_run : (b : Block) (f : Firmware) (flags : ℕ) (samples : List (List ℕ)) (before after : ℕ → ℕ) (t : Turn)
    (s s2 : State) → Waits b f before s
    → Waits b f after s2 → ended flags f samples t s ≡ s2
    → (t.sample ≡ 0 → (t.steps ≡ 0) ⊎ ((t.steps ≡ 2) × IsIdleRun f flags s))
    → (t.sample ≢ 0 → IsAnswerRun f flags t.steps (given f.memory_map (bytes_of samples t.sample) s))
    → IsTurnRun f flags samples t s
turn_run b f flags samples before after t s s2 h end at rests answers =
    let w : Waits b f after (ended flags f samples t s) = subst (Waits b f after) (sym at) end in
    record {
      at = h.at;
      cleared = h.cleared;
      rests = rests;
      answers = answers;
      at_end = w.at;
      cleared_at_end =
          w.cleared;
    }

-- a turn that answers none, before the rest
put_rest : (flags : ℕ) (f : Firmware) (samples : List (List ℕ)) (t : Turn) (ts : List Turn) (s s2 u : State)
    → t.sample ≡ 0
    → ended flags f samples t s ≡ s2 → IsTurnRun f flags samples t s → AllRun flags f samples ts s2 u
    → AllRun flags f samples (t ∷ ts) s u
unfolding Answers
put_rest flags f samples t ts s s2 u z at run r =
    let e = is_none t.sample z in
    let none : samples_of (t ∷ ts) ≡ samples_of ts = rw e refl in
    let silent : answer_of flags f samples t s ≡ [] = rw e refl in
    let rest : Answers flags f samples ts u (samples_of ts) [] s2 = r.answers in
    let all : Answers flags f samples ts u (samples_of (t ∷ ts)) (answer_of flags f samples t s)
    (ended flags f samples t s) =
    subst (λ (xs : List ℕ). Answers flags f samples ts u xs (answer_of flags f samples t s) (ended flags f samples t s))
    (sym none)
    (subst (λ (ys : List AnswerSeen). Answers flags f samples ts u (samples_of ts) ys (ended flags f samples t s))
    (sym silent)
    (subst (λ (v : State). Answers flags f samples ts u (samples_of ts) [] v) (sym at) rest)) in
    record {
      runs = (run, subst (AllTurnRuns f flags samples ts) (sym at) r.runs);
      facts = (λ ne. absurd (ne z), subst (AllKeepFacts flags f samples ts) (sym at) r.facts);
      answers = all;
    }

-- a turn that answers
put_answer : (b : Block) (flags : ℕ) (f : Firmware) (samples : List (List ℕ)) (before : ℕ → ℕ) (t : Turn)
    (ts : List Turn) (s u : State) → 1 ≤ t.sample
    → Waits b f before s → Answered b f flags samples before t.sample s u t.steps
    → AllRun flags f samples ts (uninterrupted flags t.steps (given f.memory_map (bytes_of samples t.sample) s))
    (answered_alone flags f samples t.sample u).state
    → AllRun flags f samples (t ∷ ts) s u
unfolding Answers
put_answer b flags f samples before t ts s u some h a r =
    let k = t.sample in
    let g = given f.memory_map (bytes_of samples k) s in
    let s2 = uninterrupted flags t.steps g in
    let e = is_some k some in
    let begins : begun f samples t s ≡ g = rw e refl in
    let at : ended flags f samples t s ≡ s2 = ap (uninterrupted flags t.steps) begins in
    let seen : AnswerSeen =
    record {
      sample = k;
      at = t.begin + t.steps;
      bytes = bytes_of samples k;
      values = values_in f s2;
      instrs =
          counted flags t.steps g;
    } in
    let one : samples_of (t ∷ ts) ≡ k ∷ samples_of ts = rw e refl in
    let told : answer_of flags f samples t s ≡ seen ∷ [] = rw e refl in
    let run = a.run in
    let rest : Answers flags f samples ts u (k ∷ samples_of ts) (seen ∷ []) s2 =
    ((answered_alone flags f samples k u).state, (a.answer_is, r.answers)) in
    let all : Answers flags f samples ts u (samples_of (t ∷ ts)) (answer_of flags f samples t s)
    (ended flags f samples t s) =
    subst (λ (xs : List ℕ). Answers flags f samples ts u xs (answer_of flags f samples t s) (ended flags f samples t s))
    (sym one)
    (subst (λ (ys : List AnswerSeen). Answers flags f samples ts u (k ∷ samples_of ts) ys (ended flags f samples t s))
    (sym told)
    (subst (λ (v : State). Answers flags f samples ts u (k ∷ samples_of ts) (seen ∷ []) v) (sym at) rest)) in
    let turn = turn_run b f flags samples before (λ o. answer f.width b o (bytes_of samples k) (before o)) t s
    s2 h a.waits at
    (λ z. absurd (omega (arith, z, some))) (λ ne. run) in
    record {
      runs = (turn, subst (AllTurnRuns f flags samples ts) (sym at) r.runs);
      facts = (
        λ ne j from to. subst (λ (v : State). FactsBeside is_postable flags f (uninterrupted flags j v)) (sym begins)
            (run.facts j from to),
        subst (AllKeepFacts flags f samples ts) (sym at) r.facts,
      );
      answers = all;
    }

-- the input bytes of a sample
pub sample_bytes : (b : Block) (samples : List (List ℕ)) (k : ℕ) → All (AreInputBytes b) samples → 1 ≤ k
    → k ≤ length samples → AreInputBytes b (bytes_of samples k)
sample_bytes b samples k all from to = all (k - 1) [] (omega arith)

-- where turns stand: behind the samples that are done, in s, which is like the state of no idle turns
pub record Stands (b : Block) (f : Firmware) (flags : ℕ) (samples : List (List ℕ)) (before : ℕ → ℕ) (done : List ℕ)
    (s : State) : Type 0 where
  pub waits : Waits b f before s
  pub there : Waits b f before (chain flags f samples (arrival f samples flags).state done)
  pub alike : AreAlike s (chain flags f samples (arrival f samples flags).state done)

-- behind a turn that answers
answered_stands : (b : Block) (f : Firmware) (flags : ℕ) (samples : List (List ℕ)) (before : ℕ → ℕ) (done : List ℕ)
    (k n : ℕ) (s : State)
    → Answered b f flags samples before k s (chain flags f samples (arrival f samples flags).state done) n
    → Stands b f flags samples (λ o. answer f.width b o (bytes_of samples k) (before o)) (done ++ k ∷ [])
    (uninterrupted flags n (given f.memory_map (bytes_of samples k) s))
answered_stands b f flags samples before done k n s a =
    let first = (arrival f samples flags).state in
    let s2 = uninterrupted flags n (given f.memory_map (bytes_of samples k) s) in
    let is : s2 ≡ chain flags f samples first (done ++ k ∷ []) =
    sym a.state ∙ sym (chain_more flags f samples first done k) in
    record {
      waits = a.waits;
      there = subst (Waits b f (λ o. answer f.width b o (bytes_of samples k) (before o))) is a.waits;
      alike = subst (AreAlike s2) is (alike_self s2);
    }

-- a turn that answers none
rest_run : (b : Block) (f : Firmware) (flags : ℕ) (samples : List (List ℕ)) (before : ℕ → ℕ) (done : List ℕ) (t : Turn)
    (ts : List Turn) (s : State) → Setting b f flags samples
    → Stands b f flags samples before done s → t.sample ≡ 0 → (t.steps ≡ 0) ⊎ (t.steps ≡ 2)
    → ((v : State) → Stands b f flags samples before done v
    → AllRun flags f samples ts v (chain flags f samples (arrival f samples flags).state done))
    → AllRun flags f samples (t ∷ ts) s (chain flags f samples (arrival f samples flags).state done)
rest_run b f flags samples before done t ts s x h z (inl none) later =
    let u = chain flags f samples (arrival f samples flags).state done in
    let e = is_none t.sample z in
    let begins : begun f samples t s ≡ s = rw e refl in
    let at : ended flags f samples t s ≡ s = ap₂ (λ (k : ℕ) (v : State). uninterrupted flags k v) none begins in
    put_rest flags f samples t ts s s u z at
    (turn_run b f flags samples before before t s s h.waits h.waits at (λ q. inl none) (λ ne. absurd (ne z)))
    (later s h)
rest_run b f flags samples before done t ts s x h z (inr two) later =
    let u = chain flags f samples (arrival f samples flags).state done in
    let e = is_none t.sample z in
    let begins : begun f samples t s ≡ s = rw e refl in
    let idle = idled b f flags samples before s x h.waits in
    let s2 = idle.0 in
    let at : ended flags f samples t s ≡ s2 = ap₂ (λ (k : ℕ) (v : State). uninterrupted flags k v) two begins
    ∙ idle.1.goes in
    put_rest flags f samples t ts s s2 u z at
    (turn_run b f flags samples before before t s s2 h.waits idle.1.waits at (λ q. inr (two, idle.1.run))
    (λ ne. absurd (ne z)))
    (later s2 (record { waits = idle.1.waits; there = h.there; alike = idle.1.alike u h.alike }))

pub all_run : (b : Block) (f : Firmware) (flags : ℕ) (samples : List (List ℕ)) (before : ℕ → ℕ) (done : List ℕ)
    (ts : List Turn) (s : State) → Setting b f flags samples
    → Stands b f flags samples before done s → HaveSteps (length samples) (steps_of flags f samples) done ts
    → AllRun flags f samples ts s (chain flags f samples (arrival f samples flags).state done)
all_run b f flags samples before done [] s x h have = record { runs = tt; facts = tt; answers = tt }
all_run b f flags samples before done (t ∷ ts) s x h have =
    let first = (arrival f samples flags).state in
    let u = chain flags f samples first done in
    let has : HasSteps (length samples) (steps_of flags f samples) done t = have.0 in
    let k = t.sample in
    let rest : Bool → Type 0 =
    λ c. HaveSteps (length samples) (steps_of flags f samples) (if c then done else done ++ k ∷ []) ts in
    elim (some_or k) [
      | inl z ↦
          let e = is_none k z in
          rest_run b f flags samples before done t ts s x h z (has.rests z)
          (λ v stands. all_run b f flags samples before done ts v x stands (subst rest e have.1))
      | inr some ↦
          let e = is_some k some in
          let a = answered b f flags samples before k s u x (sample_bytes b samples k x.bytes some has.within) h.waits
          h.there h.alike in
          let steps : a.0 ≡ t.steps =
          sym (has.answers (λ z. omega (arith, z, some)) ∙ steps_more flags f samples first done k ∙ a.1.steps) in
          let one : Answered b f flags samples before k s u t.steps =
          subst (Answered b f flags samples before k s u) steps a.1 in
          let s2 = uninterrupted flags t.steps (given f.memory_map (bytes_of samples k) s) in
          let later = all_run b f flags samples (λ o. answer f.width b o (bytes_of samples k) (before o))
          (done ++ k ∷ []) ts s2 x
          (answered_stands b f flags samples before done k t.steps s one) (subst rest e have.1) in
          put_answer b flags f samples before t ts s u some h.waits one
          (subst (AllRun flags f samples ts s2) (chain_more flags f samples first done k) later)
    ]

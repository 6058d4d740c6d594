-- A run under posts from reset.
use Rattle.mailbox_runs.proofs.Words.{[], ◌*◌, ◌+◌, ◌-◌, ◌∙◌, ◌∷◌, ◌≡◌, ◌≤◌, agree_self, AllGood, answer_in, ap}
use Rattle.mailbox_runs.proofs.Words.{AreAnswersOf, AreInputBytes, AreOfSize, AreUninterrupted, arith, arrival}
use Rattle.mailbox_runs.proofs.Words.{Ascend, Byte, bytes_of, is_free, is_hidden, IsBox, IsGoodPost, length, List}
use Rattle.mailbox_runs.proofs.Words.{MailboxRunsTurns, map, MemoryMap, most_turns, places, Post, PostsHaveTurns}
use Rattle.mailbox_runs.proofs.Words.{refl, run_of_turns, RunsAreTurns, RunSeen, samples_of, State, steps_of, subst}
use Rattle.mailbox_runs.proofs.Words.{suc, sym, TurnsHaveSteps, Width, Word, ℕ}
use Rattle.interrupt_plan.specs.{Posts.NoLater}
use Rattle.mailbox_code.specs.Mailboxes.{MailboxStepsAreFew}
use Rattle.mailbox_runs.specs.{Runs.run_under_posts, Runs.last_boundary, Answering.AnswersUnderAllPosts}
use Rattle.std.specs.Prelude.{All}
use Rattle.interrupt_plan.specs.Rows as rows

each_good : (n : ℕ) (ps : List Post) → All (IsGoodPost n) ps → AllGood (IsGoodPost n) ps
each_good n [] h = tt
each_good n (p ∷ ps) h = (h 0 p (omega arith), each_good n ps (λ k d lt. h (suc k) d (omega arith)))

all_rise : (k : ℕ) (p : Post) (ps : List Post) → k ≤ p.moment → rows.Ascend NoLater (p ∷ ps)
    → Ascend (λ q. q.moment) k (p ∷ ps)
all_rise k p [] le h = (le, tt)
all_rise k p (q ∷ ps) le h = (le, all_rise p.moment q ps h.0 h.1)

posts_rise : (ps : List Post) → rows.Ascend NoLater ps → Ascend (λ q. q.moment) 0 ps
posts_rise [] h = tt
posts_rise (p ∷ ps) h = all_rise 0 p ps (omega arith) h

few_places : (w : Width) (o : ℕ) → o ≤ 4 → places w * o ≤ 8
few_places Byte o h = omega arith
few_places Word o h = omega arith

pub answers_under : PostsHaveTurns → TurnsHaveSteps → MailboxRunsTurns → RunsAreTurns → MailboxStepsAreFew
    → AnswersUnderAllPosts
answers_under have count runs are few_steps f flags samples posts hf good b valid limits h all =
    let bound = few_steps b f valid limits h in
    let some = bound.0 in
    let room = bound.1 in
    let n = f.inputs in
    let inputs = h.inputs in
    let few = valid.few_inputs in
    let box : IsBox f.memory_map n =
    record {
      few = omega (arith, inputs, few);
      samples = ap (λ (l : MemoryMap). l.samples) h.memory_map;
      ready =
          ap (λ (l : MemoryMap). l.sample_flag) h.memory_map;
    } in
    let size : AreOfSize n samples =
    (λ k lo hi. (let i : AreInputBytes b (bytes_of samples k) = all (k - 1) [] (omega arith) in
    i.count ∙ sym inputs)) in
    let at_outputs : f.memory_map.outputs ≡ 0x1010 = ap (λ (l : MemoryMap). l.outputs) h.memory_map in
    let outs = h.outputs in
    let few_outs = valid.few_outputs in
    let wide = few_places f.width f.outputs (omega (arith, outs, few_outs)) in
    let steps = steps_of flags f samples in
    let turns = have n (length samples) steps posts good in
    let r = runs b f flags samples turns.0 valid limits h hf all
    (count n (length samples) steps posts turns.0 good turns.1) in
    let s : State = (arrival f samples flags).state in
    let last : 1000000 + 2 * f.step_bound ≤ last_boundary f = omega (arith, room) in
    let both =
    are flags f samples n steps (last_boundary f) most_turns 0 0 [] posts turns.0 s s box size
    (omega (arith, at_outputs, wide)) refl some last turns.1 r.runs (omega arith)
    (each_good (length samples) posts good.posts_are) (posts_rise posts good.ascends)
    (record { regs = refl; temps = refl; mem = agree_self (is_hidden is_free s.regs.sp) s.mem }) (omega arith)
    (λ x. absurd (omega arith)) in
    let run_is : run_under_posts f samples posts flags ≡ run_of_turns flags f samples turns.0 s = rw r.arrived both.0 in
    record {
      turns = turns.0;
      turns_are = turns.1;
      arrived = r.arrived;
      run_is = run_is;
      uninterrupted = subst
          (λ (x : RunSeen). AreUninterrupted f flags (map (bytes_of samples) (samples_of turns.0))
          (map answer_in x.answers)) (sym run_is) r.answers_are;
      of_block = subst (λ (x : RunSeen). AreAnswersOf f.width b f.instr_bound (λ o. 0)
          (map (bytes_of samples) (samples_of turns.0)) (map answer_in x.answers)) (sym run_is) r.of_block;
      facts = r.facts;
      simulate = both.1;
    }

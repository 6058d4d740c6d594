-- What is told of a fast run is read off its run without inner requests, and answers its sample.
use Rattle.two_level_runs.proofs.Words.{◌*◌, ◌+◌, ◌-◌, ◌<◌, ◌∙◌, ◌≡◌, ◌≤◌, answer_of_fast, ap, AreBelow, arith, Begins}
use Rattle.two_level_runs.proofs.Words.{Block, Byte, bytes_at, bytes_of, counted, entered, fast_map, fast_most}
use Rattle.two_level_runs.proofs.Words.{FollowsInside, frames_of, from, HasAnswers, joint_memory, is_open_to_fast}
use Rattle.two_level_runs.proofs.Words.{IsFastRun, IsReadOff, length, Level, List, max, plus, Ran, refl, resumed_of}
use Rattle.two_level_runs.proofs.Words.{seen_of, slice_index, State, subst, suc, sym, taken_at, Two, [], ap₂, map}
use Rattle.two_level_runs.proofs.Words.{true, zero, ℕ, ◌∷◌}
use Rattle.eval_code.specs.{Widths.answer}
use Rattle.two_level_code.specs.{Running.IsEntered}
use Rattle.two_level_runs.specs.{Answering.run_of_level}
use Rattle.firmware_code.specs.Uninterrupted.{Answer, AreAnswersOf, IsAnswerOf}
use Rattle.byte_scaling.specs.declared.width.Width.{Width}
use Rattle.std.proofs.lemmas.List.{ext_get_or}
use Rattle.two_level_runs.proofs.Frames.{HasFrameRoom, frame_at}

-- bytes one after the other
read_at : (n at k : ℕ) (m : List ℕ) → k < n → at + n ≤ 0xFFFF
    → slice_index (bytes_at m (from at n)) k ≡ slice_index m (at + k)
read_at zero at k m lt l = absurd (omega arith)
read_at (suc n) at zero m lt l = let e : at ≡ at + 0 = omega arith in ap (slice_index m) e
read_at (suc n) at (suc k) m lt l =
    let e : plus at 1 + k ≡ at + suc k = omega arith in
    read_at n (plus at 1) k m (omega arith) (omega arith) ∙ ap (slice_index m) e

count_at : (n at : ℕ) (m : List ℕ) → length (bytes_at m (from at n)) ≡ n
count_at zero at m = refl
count_at (suc n) at m = let r = count_at n (plus at 1) m in omega (arith, r)

-- the answers of a run at whose end these stand in memory
pub answers_told : (b : Block) (most number : ℕ) (before : ℕ → ℕ) (bytes : List ℕ) (r : Ran ℕ (Unit {0}))
    → length b.outputs ≤ 8 → r.instrs ≤ most
    → HasAnswers fast_map b Byte (λ o. answer Byte b o bytes (before o)) r.state.mem
    → IsAnswerOf Byte b most before bytes (answer_of_fast (seen_of number (length b.outputs) r))
answers_told b most number before bytes r few le h = record {
  values = λ o from to. (let a = h o from to in
      read_at (length b.outputs) fast_map.outputs (o - 1) r.state.mem (omega arith) (omega arith)
      ∙ ap (slice_index r.state.mem) (place o) ∙ a.0);
  count = count_at (length b.outputs) fast_map.outputs r.state.mem;
  instructions = le;
}
  where
    place : (o : ℕ) → fast_map.outputs + (o - 1) ≡ fast_map.outputs + 1 * (o - 1)
    place o = omega arith

-- what is read off the run without inner requests, of a level whose interrupt begins in v
pub read_off : (b : Block) (two : Two) (flags : ℕ) (fast : List (List ℕ)) (l : Level) (before : ℕ → ℕ)
    (slow v t : State) → 1 ≤ l.fast → l.fast ≤ length fast → HasFrameRoom slow → Begins is_open_to_fast v slow
    → IsEntered b (joint_memory two) (bytes_of fast l.fast) before (entered (bytes_of fast l.fast) v)
    → (r : IsFastRun b (joint_memory two) flags (bytes_of fast l.fast) before
    (entered (bytes_of fast l.fast) v) t)
    → FollowsInside flags (length b.outputs) (fast_most two.fast.step_bound) l.inner.items (suc r.further)
    (entered (bytes_of fast l.fast) v)
    → IsReadOff b two flags fast before slow l
    (seen_of l.fast (length b.outputs) (run_of_level b two flags fast l v))
read_off b two flags fast l before slow v t from to room begins enters r inside =
    let follows = inside.follows in record {
      number = refl;
      from = from;
      to = to;
      interrupted = v;
      begins = begins;
      enters = enters;
      arrived = follows.arrived;
      seen = refl;
      behind = t;
      run = r;
      steps = follows.steps;
      instrs = follows.instrs ∙ ap (λ (n : ℕ). counted flags n s) (sym follows.steps);
      resumed = follows.resumed
          ∙ ap (λ (moment : ℕ → ℕ). resumed_of flags moment s l.inner.items (suc r.further)) moments
          ∙ ap (λ (n : ℕ). resumed_of flags (λ m. max 1 m) s l.inner.items n) (sym follows.steps);
      frames = follows.frames
          ∙ ap (λ (moment : ℕ → ℕ). frames_of flags moment s l.inner.items (suc r.further)) moments
          ∙ ap (λ (n : ℕ). frames_of flags (λ m. max 1 m) s l.inner.items n) (sym follows.steps);
      stack = inside.stack;
      below = subst (λ (sp : ℕ). AreBelow sp (run_of_level b two flags fast l v).frames)
          (sym (frame_at true slow v.regs room begins.regs)) inside.below;
      follows = subst
          (λ (n : ℕ). FollowsInside flags (length b.outputs) (fast_most two.fast.step_bound) l.inner.items n s)
          (sym follows.steps) inside;
    }
  where
    s : State
    s = entered (bytes_of fast l.fast) v

    moments : ◌≡◌ {A = ℕ → ℕ} (taken_at flags (λ k. k) (suc r.further) s) (λ m. max 1 m)
    moments = λ i. λ q. inside.moments q i

-- a block's answers to samples have one list of values, whatever the bound
one_value : (w : Width) (b : Block) (m n : ℕ) (before : ℕ → ℕ) (bytes : List ℕ) (a c : Answer)
    → IsAnswerOf w b m before bytes a → IsAnswerOf w b n before bytes c → a.values ≡ c.values
one_value w b m n before bytes a c p q = ext_get_or 0 a.values c.values (p.count ∙ sym q.count) value
  where
    value : (i : ℕ) → i < length a.values → slice_index a.values i ≡ slice_index c.values i
    value i l =
        let e : suc i - 1 ≡ i = omega arith in
        let to : suc i ≤ length b.outputs = omega (arith, p.count, l) in
        subst (λ (k : ℕ). slice_index a.values k ≡ slice_index c.values k) e
        (p.values (suc i) (omega arith) to ∙ sym (q.values (suc i) (omega arith) to))

pub values_are_one : (w : Width) (b : Block) (m n : ℕ) (before : ℕ → ℕ) (xs : List (List ℕ)) (bs cs : List Answer)
    → AreAnswersOf w b m before xs bs → AreAnswersOf w b n before xs cs
    → map (λ (a : Answer). a.values) bs ≡ map (λ (a : Answer). a.values) cs
values_are_one w b m n before [] [] [] p q = refl
values_are_one w b m n before [] [] (c ∷ cs) p q = absurd q
values_are_one w b m n before [] (a ∷ bs) cs p q = absurd p
values_are_one w b m n before (x ∷ xs) [] cs p q = absurd p
values_are_one w b m n before (x ∷ xs) (a ∷ bs) [] p q = absurd q
values_are_one w b m n before (x ∷ xs) (a ∷ bs) (c ∷ cs) p q =
    ap₂ (λ (v : List ℕ) (vs : List (List ℕ)). v ∷ vs) (one_value w b m n before x a c p.0 q.0)
    (values_are_one w b m n (λ o. answer w b o x (before o)) xs bs cs p.1 q.1)

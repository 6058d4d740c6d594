-- Fast runs are read off their runs without inner requests.
use Rattle.std.proofs.Common.{◌≡◌, ◌≤◌, ◌<◌, ◌+◌, ◌∙◌, ℕ, zero, suc, List, [], ◌∷◌, length, refl, sym, ap, ap₂, subst, arith}
use Rattle.std.specs.Prelude.{false, nat_lt, Option, None, Some, true}
use Rattle.std.proofs.lemmas.Bool.Decides.{nat_tests}
use Rattle.fuzzy_meaning.specs.{Blocks.IsValid, declared.block.Block.Block}
use Rattle.cpu12_isa.specs.{Agreement.AllShown, Memory.bytes_at, Memory.from, Memory.plus, Regions.is_hidden}
use Rattle.cpu12_isa.proofs.Algebra.{same_bytes}
use Rattle.cpu12_parts.specs.State.{State}
use Rattle.cpu12_emul.specs.Take.{FrameSeen}
use Rattle.alone_runs.specs.Rows.{bytes_of}
use Rattle.interrupt_plan.specs.declared.levels.Level.{Level}
use Rattle.run_law.specs.{Following.EachTold, Following.onto, Forms.RowSeen, Uninterrupted.counted, Uninterrupted.uninterrupted}
use Rattle.two_level_code.specs.{MemoryMaps.fast_map, declared.two.Two.Two}
use Rattle.two_level_runs.specs.Answering.{AreTold, IsReadOff, IsTold, IsToldFrom, run_of_level}
use Rattle.two_level_runs.specs.{Runs.FastSeen, Runs.entered, Steps.IsFastRun, Steps.is_open_inside}
use Rattle.promise.specs.{Bench.EndsAfter, FastRuns.AllLevelsServe, FastRuns.FastServes}
use Rattle.promise.specs.FastRuns.{TwoLevelServes, LevelsServe, inner_form}

-- ---- the end

not_above : (low sp : ℕ) → sp ≡ low → nat_lt low sp ≡ false
not_above low sp same = grind (arith, nat_tests)

above : (low sp : ℕ) → low + 9 < 65536 → sp ≡ plus low 9 → nat_lt low sp ≡ true
above low sp room same = let more : low < sp = omega (arith, room, same) in grind (arith, nat_tests)

ends : (b : Block) (image : List ℕ) (flags : ℕ) (bytes : List ℕ) (before : ℕ → ℕ) (s t : State)
    → (run : IsFastRun b image flags bytes before s t)
    → EndsAfter (inner_form flags (length b.outputs) s.regs.sp) (suc run.further) s
ends b image flags bytes before s t run = record {
  before = below;
  there = above s.regs.sp _ (let room = run.first.room in omega (arith, room.1))
      (ap (λ (u : State). u.regs.sp) run.goes ∙ ap (λ r. r.sp) run.regs);
}
  where
    below : (j : ℕ) → j < suc run.further → nat_lt s.regs.sp (uninterrupted flags j s).regs.sp ≡ false
    below zero lt = not_above s.regs.sp s.regs.sp refl
    below (suc j) lt = not_above s.regs.sp _ (run.each j (omega (arith, lt))).state.stack

-- ---- the answers

shown : (sp at n : ℕ) → at + n ≤ 0x1FE0 → AllShown (is_hidden is_open_inside sp) (from at n)
shown sp at zero le = tt
shown sp at (suc n) le =
    let next : plus at 1 ≡ at + 1 = omega (arith, le) in (
      grind (arith, nat_tests),
      subst (λ (m : ℕ). AllShown (is_hidden is_open_inside sp) (from m n)) (sym next)
          (shown sp (at + 1) n (omega (arith, le))),
    )

abbrev row : List ℕ → ℕ → ℕ → ℕ → List (ℕ × FrameSeen) → RowSeen (Unit {0})
row answers instrs steps resumed frames = record {
  sample = tt;
  answers = answers;
  instrs = instrs;
  steps = steps;
  resumed = resumed;
  frames = frames;
}

module _ (b : Block) (valid : IsValid b) (two : Two) (flags : ℕ) (fast : List (List ℕ)) where
  serves : (before : ℕ → ℕ) (slow : State) (l : Level) (f : FastSeen) → IsReadOff b two flags fast before slow l f
      → FastServes b two flags fast slow l f
  serves before slow l f r =
      let s : State = entered (bytes_of fast l.fast) r.interrupted in
      let ran = run_of_level b two flags fast l r.interrupted in
      let last = r.follows.follows.last in
      let outputs = from fast_map.outputs (length b.outputs) in
      let answers : f.answers ≡ bytes_at (uninterrupted flags f.steps s).mem outputs =
      ap (λ (g : FastSeen). g.answers) r.seen
      ∙ same_bytes _ ran.state.mem (uninterrupted flags f.steps s).mem last.mem outputs
      (shown (uninterrupted flags f.steps s).regs.sp fast_map.outputs (length b.outputs)
      (let few = valid.few_outputs in omega (arith, few))) in
      record {
        interrupted = r.interrupted;
        begins = r.begins;
        first = s;
        enters = refl;
        arrived = r.arrived;
        seen = r.seen;
        ends = subst (λ (n : ℕ). EndsAfter (inner_form flags (length b.outputs) s.regs.sp) n s) (sym r.steps)
            (ends b _ flags _ before s r.behind r.run);
        without = ap₂ (λ a i. row a i f.steps f.resumed f.frames) answers r.instrs
            ∙ ap₂ (λ k fs. row (bytes_at (uninterrupted flags f.steps s).mem outputs) (counted flags f.steps s) f.steps k fs)
            r.resumed r.frames;
      }

  told : (before : ℕ → ℕ) (slow : State) (l : Level) (t : Option FastSeen)
      → IsTold b two flags fast before slow l t → TwoLevelServes b two flags fast slow l t
  told before slow l None h = tt
  told before slow l (Some f) h = serves before slow l f h

  each : (s : State) (done ts : List (Level × Option FastSeen)) → EachTold (IsToldFrom b two flags fast s) done ts
      → LevelsServe b two flags fast s ts
  each s done [] h = tt
  each s done ((l, t) ∷ ts) h = (told _ _ l t h.0, each s ((l, t) ∷ done) ts h.1)

  pub all_serve : (done : List (Level × Option FastSeen)) (tss : List (List (Level × Option FastSeen))) (ns : List ℕ)
      (samples : List (List ℕ)) (s : State) → AreTold b two flags fast done tss ns samples s
      → AllLevelsServe b two flags fast tss ns samples s
  all_serve done [] ns samples s h = tt
  all_serve done (ts ∷ tss) [] samples s h = absurd h
  all_serve done (ts ∷ tss) (n ∷ ns) [] s h = absurd h
  all_serve done (ts ∷ tss) (n ∷ ns) (x ∷ rest) s h = (each _ done ts h.0, all_serve (onto ts done) tss ns rest _ h.1)

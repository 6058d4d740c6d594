-- Where whole instructions answer all samples, so do the rows under every good plan.
use Rattle.std.proofs.Common.{◌≡◌, ℕ, suc, ◌*◌, ◌^◌, ◌<◌, ◌≤◌, Bool, List, [], ◌∷◌, length, map}
use Rattle.std.proofs.Common.{refl, ap, ap₂, sym, ◌∙◌}
use Rattle.std.proofs.Common.{subst, arith}
use Rattle.std.proofs.Common.{nat_le, nat_lt}
use Rattle.std.specs.Prelude.{All, ◌&&◌}
use Rattle.std.proofs.lemmas.Bool.{or_parts}
use Rattle.std.proofs.lemmas.List.Elements.{All-cons}
use Rattle.fuzzy_meaning.specs.declared.block.Block.{Block}
use Rattle.cpu12_isa.specs.Regions.{is_free}
use Rattle.cpu12_parts.specs.{State.State, Executions.all_steps}
use Rattle.cpu12_emul.specs.{Image.image_memory, Step.reset_with}
use Rattle.interrupt_plan.specs.{declared.Request.Request, Plans.IsGood}
use Rattle.firmware_code.specs.{declared.firmware.Firmware.Firmware, Interruptible.is_idle}
use Rattle.firmware_code.specs.Interruptible.{IsInterruptible}
use Rattle.eval_code.specs.{declared.memory_map.MemoryMap.MemoryMap, MemoryMaps.main_map, Widths.answer}
use Rattle.eval_code.specs.Bounds.{steps_by, step_bound}
use Rattle.eval_code.proofs.Algebra.{enough_steps}
use Rattle.byte_scaling.specs.{Widths.places, declared.width.Width.Width, declared.width.Width.TheVariants.Byte}
use Rattle.byte_scaling.specs.declared.width.Width.TheVariants.{Word}
use Rattle.firmware_code.specs.Arrivals as arrivals
use Rattle.cpu12_isa.specs.{declared.instr.Regs.Regs, Agreement.Agree}
use Rattle.firmware_code.specs.Arrivals.{LeavesMapped, IsArrivedBeside, IsArrived}
use Rattle.alone_code.specs.Answers.{FirmwareAnswersBeside, ArrivesAlike, FirmwareArrivesAlike, AreAnswered}
use Rattle.alone_code.specs.Answers.{IsAnsweredBeside, AreAnsweredBeside}
use Rattle.alone_code.specs.Firmwares.{IsFirmwareOf}
use Rattle.alone_code.proofs.Algebra.{leaves_main}
use Rattle.firmware_code.specs.Uninterrupted.{Answer, values_in, AreUninterrupted, AreAnswersOf}
use Rattle.alone_code.specs.Uninterrupted.{answers_by}
use Rattle.eval_code.specs.Firing.{AreInputBytes}
use Rattle.run_law.specs.{Forms.RowSeen, Forms.rows_from, Uninterrupted.uninterrupted, Uninterrupted.counted}
use Rattle.run_law.specs.Following.{Completes, AllComplete, AllWithin}
use Rattle.firmware_runs.specs.Ports.{given, answers_in, AnswersAreValues}
use Rattle.firmware_runs.specs.Facts.{FactsBeside, FactsAlone, WaitsAlone}
use Rattle.firmware_runs.specs.Instructions.{AreSteps, IsServing}
use Rattle.alone_runs.specs.{Forms.with_writes, Rows.requests_of, Rows.first_state, Rows.firmware_rows}
use Rattle.alone_runs.specs.Following.{row_of_sample, rows_of_samples, IsLow, FollowsAlone, AllWait}
use Rattle.alone_runs.specs.Answering.{answer_of_row, AnswersItsBlock, AnswersUnder, AnswersUnderPlans, RunsBeside}
use Rattle.alone_runs.specs.Answering.{FirmwareRunsBeside, FirstAlike, FirstStatesAlike, FirstStatesAgree}
use Rattle.run_forms.specs.{Rows.arrival, Arrival.ArrivesPlainly}
use Rattle.alone_runs.proofs.UsedLaws.{ExecutionLaws, Laws}

-- a firmware at the memory map that stands alone, with n answers
abbrev alone : Firmware → ℕ → Firmware
alone f n = record f { memory_map = main_map; outputs = n }

-- samples that end below the outputs' bytes
abbrev AreShort : List (List ℕ) → Type 0
AreShort [] = Unit {0}
AreShort (bytes ∷ samples) = (length bytes ≤ 8) × AreShort samples

-- the numbers of steps of the samples
numbers : (open_to : ℕ → Bool) (b : Block) (w : Width) (most : ℕ) (image : List ℕ) (flags : ℕ) (before : ℕ → ℕ)
    (samples : List (List ℕ)) (s : State)
    → AreAnsweredBeside open_to main_map b w most image flags before samples s → List ℕ
numbers open_to b w most image flags before [] s h = []
numbers open_to b w most image flags before (bytes ∷ samples) s h =
    all_steps h.1.0.ds ∷ numbers open_to b w most image flags (λ o. answer w b o bytes (before o)) samples h.0 h.1.1

within : (open_to : ℕ → Bool) (b : Block) (w : Width) (most : ℕ) (image : List ℕ) (flags : ℕ) (before : ℕ → ℕ)
    (samples : List (List ℕ)) (s : State)
    (h : AreAnsweredBeside open_to main_map b w most image flags before samples s)
    → AllWithin (steps_by b most) (numbers open_to b w most image flags before samples s h)
unfolding numbers
within open_to b w most image flags before [] s h = tt
within open_to b w most image flags before (bytes ∷ samples) s h =
    (h.1.0.steps, within open_to b w most image flags (λ o. answer w b o bytes (before o)) samples h.0 h.1.1)

went : ExecutionLaws → (open_to : ℕ → Bool) (b : Block) (w : Width) (most : ℕ) (image : List ℕ) (flags : ℕ)
    (before : ℕ → ℕ) (bytes : List ℕ) (s t : State) → flags < 2 ^ 8 → length bytes ≤ 8
    → (a : IsAnsweredBeside open_to main_map b w most image flags before bytes s t)
    → AreSteps (IsServing open_to main_map image flags) flags a.ds (given main_map bytes s) t
went laws open_to b w most image flags before bytes s t hf l a =
    subst (λ (u : State). AreSteps (IsServing open_to main_map image flags) flags a.ds u t)
    (sym (laws.given_is_put main_map bytes s (omega arith)))
    (laws.steps open_to main_map image flags a.ds (arrivals.given main_map bytes s) t hf a.execution)

sampled : ExecutionLaws → (open_to : ℕ → Bool) (f : Firmware) (n : ℕ) (b : Block) (w : Width) (most : ℕ) (flags : ℕ)
    (before : ℕ → ℕ) (bytes : List ℕ) (s t : State) → flags < 2 ^ 8 → length bytes ≤ 8
    → (a : IsAnsweredBeside open_to main_map b w most (image_memory f.image.bytes) flags before bytes s t)
    → Completes (FactsBeside open_to flags (alone f n)) (with_writes flags (alone f n)) 0 (all_steps a.ds)
    (all_steps a.ds) (given main_map bytes s)
sampled laws open_to f n b w most flags before bytes s t hf l a =
    let g = went laws open_to b w most (image_memory f.image.bytes) flags before bytes s t hf l a in
    record {
      sum = omega arith;
      holds = λ j l. (let k = g.each j l in record { facts = k.facts; image = k.image; stack = k.stack });
      on = λ j from l. (let k = g.each j l in k.busy);
      ended = ap (is_idle main_map) g.goes ∙ a.idle;
    }

all_sampled : ExecutionLaws
    → (open_to : ℕ → Bool) (f : Firmware) (n : ℕ) (b : Block) (w : Width) (most : ℕ) (flags : ℕ) (before : ℕ → ℕ)
    (samples : List (List ℕ)) (s : State) → flags < 2 ^ 8
    → AreShort samples →
    (h : AreAnsweredBeside open_to main_map b w most (image_memory f.image.bytes) flags before samples s)
    → AllComplete (FactsBeside open_to flags (alone f n)) (with_writes flags (alone f n))
    (numbers open_to b w most (image_memory f.image.bytes) flags before samples s h) samples s
unfolding numbers
all_sampled laws open_to f n b w most flags before [] s hf l h = tt
all_sampled laws open_to f n b w most flags before (bytes ∷ samples) s hf l h =
    let image = image_memory f.image.bytes in
    let g = went laws open_to b w most image flags before bytes s h.0 hf l.0 h.1.0 in
    let later : ℕ → ℕ = λ o. answer w b o bytes (before o) in (
      sampled laws open_to f n b w most flags before bytes s h.0 hf l.0 h.1.0,
      subst (λ (u : State). AllComplete (FactsBeside open_to flags (alone f n)) (with_writes flags (alone f n))
          (numbers open_to b w most image flags later samples h.0 h.1.1) samples u) (sym g.goes)
          (all_sampled laws open_to f n b w most flags later samples h.0 hf l.1 h.1.1),
    )

-- where it waits
waits_alone : (f : Firmware) (s : State) → IsInterruptible is_free (image_memory f.image.bytes) s → WaitsAlone f s
waits_alone f s c = record { image = c.same; stack = c.stack; unmasked = c.mask; sums = c.temps }

all_wait : ExecutionLaws → (f : Firmware) (n : ℕ) (b : Block) (w : Width) (most : ℕ) (flags : ℕ) (before : ℕ → ℕ)
    (samples : List (List ℕ)) (s : State) → flags < 2 ^ 8
    → AreShort samples → IsInterruptible is_free (image_memory f.image.bytes) s
    → (h : AreAnswered main_map b w most (image_memory f.image.bytes) flags before samples s)
    → AllWait flags (alone f n)
    (numbers is_free b w most (image_memory f.image.bytes) flags before samples s h) samples s
unfolding numbers
all_wait laws f n b w most flags before [] s hf l c h = waits_alone (alone f n) s c
all_wait laws f n b w most flags before (bytes ∷ samples) s hf l c h =
    let image = image_memory f.image.bytes in
    let g = went laws is_free b w most image flags before bytes s h.0 hf l.0 h.1.0 in
    let later : ℕ → ℕ = λ o. answer w b o bytes (before o) in
    let one = h.1.0 in (
      waits_alone (alone f n) s c,
      subst (λ (u : State). AllWait flags (alone f n) (numbers is_free b w most image flags later samples h.0 h.1.1)
          samples u) (sym g.goes)
          (all_wait laws f n b w most flags later samples h.0 hf l.1 one.interruptible h.1.1),
    )

-- the answers are the values
same_values : AnswersAreValues → (f : Firmware) (n : ℕ) (s : State) → n ≤ 4
    → answers_in (alone f n) s ≡ values_in (alone f n) s
same_values law f n s few = law (alone f n) s (omega arith)

-- the rows as answers
answer_is : (xs ys : List ℕ) (i j : ℕ) → xs ≡ ys → i ≡ j
    → ◌≡◌ {A = Answer} (record { values = xs; instructions = i }) (record { values = ys; instructions = j })
answer_is xs ys i j v n =
    ap₂ (λ (x : List ℕ) (k : ℕ). let r : Answer = record { values = x; instructions = k } in r) v n

all_answers : Laws
    → (f : Firmware) (n : ℕ) (b : Block) (image : List ℕ) (flags : ℕ) (before : ℕ → ℕ) (plan : List Request) (k : ℕ)
    (samples : List (List ℕ)) (s : State)
    → flags < 2 ^ 8 → AreShort samples → n ≤ 4
    → (h : AreAnswered main_map b f.width f.instr_bound image flags before samples s)
    → map answer_of_row (rows_of_samples flags (alone f n) plan k
    (numbers is_free b f.width f.instr_bound image flags before samples s h) samples s) ≡ answers_by b
    (alone f n) image flags before samples s h
unfolding numbers
all_answers laws f n b image flags before plan k [] s hf l few h = refl
all_answers laws f n b image flags before plan k (bytes ∷ samples) s hf l few h =
    let w = f.width in
    let most = f.instr_bound in
    let start = given main_map bytes s in
    let g = went laws.executions is_free b w most image flags before bytes s h.0 hf l.0 h.1.0 in
    let later : ℕ → ℕ = λ o. answer w b o bytes (before o) in
    let end = uninterrupted flags (all_steps h.1.0.ds) start in
    let here =
    answer_is (answers_in (alone f n) end) (values_in (alone f n) h.0) (counted flags (all_steps h.1.0.ds) start)
    (length h.1.0.ds) (ap (answers_in (alone f n)) g.goes ∙ same_values laws.answers_are_values f n h.0 few) g.counts in
    let rest = all_answers laws f n b image flags later plan (suc k) samples h.0 hf l.1 few h.1.1 in
    let moved =
    subst (λ (u : State). map answer_of_row
    (rows_of_samples flags (alone f n) plan (suc k) (numbers is_free b w most image flags later samples h.0 h.1.1)
    samples u) ≡ answers_by b (alone f n) image flags later samples h.0 h.1.1) (sym g.goes) rest in
    ap₂ (λ (x : Answer) (xs : List Answer). x ∷ xs) here moved

all_samples : (f : Firmware) (b : Block) (w : Width) (most : ℕ) (image : List ℕ) (flags : ℕ) (before : ℕ → ℕ)
    (plan : List Request) (k : ℕ) (samples : List (List ℕ)) (s u : State)
    → (h : AreAnswered main_map b w most image flags before samples s)
    → map (λ (r : RowSeen (List ℕ)). r.sample)
    (rows_of_samples flags f plan k (numbers is_free b w most image flags before samples s h) samples u) ≡ samples
unfolding numbers
all_samples f b w most image flags before plan k [] s u h = refl
all_samples f b w most image flags before plan k (bytes ∷ samples) s u h =
    let start = given f.memory_map bytes u in
    ap (λ (xs : List (List ℕ)). bytes ∷ xs)
    (all_samples f b w most image flags (λ o. answer w b o bytes (before o)) plan (suc k) samples h.0
    (uninterrupted flags (all_steps h.1.0.ds) start) h.1.1)

-- no row has more steps than the bound
few_steps : (flags : ℕ) (f : Firmware) (plan : List Request) (most k : ℕ) (ns : List ℕ) (samples : List (List ℕ))
    (s : State) → AllWithin most ns
    → All (λ (r : RowSeen (List ℕ)). r.steps ≤ most) (rows_of_samples flags f plan k ns samples s)
few_steps flags f plan most k [] samples s h = λ j r lt. absurd (omega arith)
few_steps flags f plan most k (n ∷ ns) [] s h = λ j r lt. absurd (omega arith)
few_steps flags f plan most k (n ∷ ns) (bytes ∷ rest) s h =
    let first = given f.memory_map bytes s in
    let after = uninterrupted flags n first in
    All-cons (λ (r : RowSeen (List ℕ)). r.steps ≤ most) (row_of_sample flags f (requests_of k plan) n bytes first)
    (rows_of_samples flags f plan (suc k) ns rest after) h.0
    (few_steps flags f plan most (suc k) ns rest after h.1)

-- a firmware waits first where it arrives first
first_is : ArrivesPlainly → (open_to : ℕ → Bool) (b : Block) (f : Firmware) (n flags : ℕ) (s : State)
    → length b.outputs ≤ 4 → IsFirmwareOf b (alone f n)
    → IsArrivedBeside open_to main_map (image_memory f.image.bytes) flags s → first_state (alone f n) flags ≡ s
first_is arrives_plainly open_to b f n flags s few h a =
    let start = reset_with (image_memory f.image.bytes) in
    ap (λ (most : ℕ). arrival flags 0xC008 most start) h.steps
    ∙ arrives_plainly flags 0xC008 3 (step_bound f.width b) start s refl a.execution a.wait
    (enough_steps f.width b few)

all_short : (b : Block) (samples : List (List ℕ)) → length b.inputs ≤ 8 → All (AreInputBytes b) samples
    → AreShort samples
all_short b [] few all = tt
all_short b (bytes ∷ samples) few all = (
  let i = all 0 bytes (omega arith) in
      omega (arith, i.count),
  all_short b samples few (λ k d lt. all (suc k) d (omega arith)),
)

-- its bytes from outside stand low
few_bytes : (w : Width) (n : ℕ) → n ≤ 4 → places w * n ≤ 8
few_bytes Byte n l = omega arith
few_bytes Word n l = omega arith

is_low : (f : Firmware) (n : ℕ) → n ≤ 4 → IsLow (alone f n)
is_low f n few = let bytes = few_bytes f.width n few in record { ready = omega arith; outputs = omega arith }

-- its run beside handlers to which these bytes are open
beside : ExecutionLaws → (open_to : ℕ → Bool) (b : Block) (f : Firmware) (n flags : ℕ) (samples : List (List ℕ))
    (s : State)
    → flags < 2 ^ 8 → length b.outputs ≤ 4 → n ≤ 4
    → IsFirmwareOf b (alone f n) → AreShort samples
    → IsArrivedBeside open_to main_map (image_memory f.image.bytes) flags s
    → AreAnsweredBeside open_to main_map b f.width f.instr_bound (image_memory f.image.bytes) flags
    (λ o. 0) samples s
    → RunsBeside open_to (alone f n) flags samples
beside laws open_to b f n flags samples s hf few count h short a answered =
    let g = alone f n in
    let w = f.width in
    let image = image_memory f.image.bytes in
    let most = f.instr_bound in
    let first : first_state g flags ≡ s = first_is laws.arrives_plainly open_to b f n flags s few h a in
    let ns = numbers open_to b w most image flags (λ o. 0) samples s answered in
    let enough : steps_by b most ≡ f.step_bound = ap (steps_by b) h.instructions ∙ sym h.steps in
    record {
      low = is_low f n count;
      ns = ns;
      within = subst (λ (m : ℕ). AllWithin m ns) enough
          (within open_to b w most image flags (λ o. 0) samples s answered);
      complete = subst (λ (u : State). AllComplete (FactsBeside open_to flags g) (with_writes flags g) ns samples u)
          (sym first)
          (all_sampled laws open_to f n b w most flags (λ o. 0) samples s hf short answered);
    }

-- the rows of a firmware that waits first in s
under : Laws → (b : Block) (f : Firmware) (n flags : ℕ) (samples : List (List ℕ)) (plan : List Request) (s : State)
    → flags < 2 ^ 8 → length b.outputs ≤ 4
    → n ≤ 4 → IsFirmwareOf b (alone f n) → AreShort samples → IsGood plan
    → IsArrived main_map (image_memory f.image.bytes) flags s
    → AreAnswered main_map b f.width f.instr_bound (image_memory f.image.bytes) flags (λ o. 0) samples s
    → AnswersUnder b (alone f n) flags samples plan (firmware_rows (alone f n) samples plan flags).rows
under laws b f n flags samples plan s hf few count h short good a answered =
    let g = alone f n in
    let w = f.width in
    let image = image_memory f.image.bytes in
    let most = f.instr_bound in
    let ns = numbers is_free b w most image flags (λ o. 0) samples s answered in
    let first : first_state g flags ≡ s = first_is laws.executions.arrives_plainly is_free b f n flags s few h a in
    let low : IsLow g = is_low f n count in
    let steps : AllWithin (steps_by b most) ns = within is_free b w most image flags (λ o. 0) samples s answered in
    let same_bound : steps_by b most ≡ step_bound w b = ap (steps_by b) h.instructions in
    let enough : f.step_bound ≡ steps_by b most = h.steps ∙ sym same_bound in
    let bounded : AllWithin f.step_bound ns = subst (λ (m : ℕ). AllWithin m ns) (sym enough) steps in
    let complete : AllComplete (FactsAlone flags g) (with_writes flags g) ns samples s =
    all_sampled laws.executions is_free f n b w most flags (λ o. 0) samples s hf short answered in
    let runs : FollowsAlone flags g f.step_bound plan ns samples s =
    laws.runs_follow flags g f.step_bound plan ns samples s low good bounded complete in
    let rows = (firmware_rows g samples plan flags).rows in
    let expected = rows_of_samples flags g plan 1 ns samples s in
    let rows_are : rows ≡ expected =
    ap (λ (u : State). (rows_from (with_writes flags g) f.step_bound (λ k. requests_of k plan) 1 samples u).rows) first
    ∙ runs.rows_are in
    let same = ap (map answer_of_row) rows_are
    ∙ all_answers laws f n b image flags (λ o. 0) plan 1 samples s hf short count answered in
    let both = laws.answered_are_uninterrupted b g flags samples s h.outputs a answered in
    record {
      answers = record {
        samples_are = ap (map (λ (r : RowSeen (List ℕ)). r.sample)) rows_are
            ∙ all_samples g b w most image flags (λ o. 0) plan 1 samples s s answered;
        uninterrupted = subst (λ (xs : List Answer). AreUninterrupted g flags samples xs) (sym same) both.0;
        answers = subst (λ (xs : List Answer). AreAnswersOf w b most (λ o. 0) samples xs) (sym same) both.1;
        steps = subst (λ (rs : List (RowSeen (List ℕ))). All (λ (r : RowSeen (List ℕ)). r.steps ≤ step_bound w b) rs)
            (sym rows_are) (subst (λ (m : ℕ). All (λ (r : RowSeen (List ℕ)). r.steps ≤ m) expected) same_bound
            (few_steps flags g plan (steps_by b most) 1 ns samples s steps));
      };
      ns = ns;
      complete = subst (λ (u : State). AllComplete (FactsAlone flags g) (with_writes flags g) ns samples u)
          (sym first) complete;
      waits = subst (λ (u : State). AllWait flags g ns samples u) (sym first)
          (all_wait laws.executions f n b w most flags (λ o. 0) samples s hf short a.interruptible answered);
      rows_are = rows_are ∙ ap (λ (u : State). rows_of_samples flags g plan 1 ns samples u) (sym first);
      follows = subst (λ (u : State). FollowsAlone flags g f.step_bound plan ns samples u) (sym first) runs;
    }

-- the same of any firmware of a block
by_map : Firmware → MemoryMap → ℕ → Firmware
by_map f l k = record f { memory_map = l; outputs = k }

is_alone : (b : Block) (f : Firmware) → IsFirmwareOf b f → f ≡ alone f (length b.outputs)
unfolding by_map
is_alone b f h = ap₂ (by_map f) h.memory_map h.outputs

as_alone : (b : Block) (f : Firmware) → IsFirmwareOf b f → IsFirmwareOf b (alone f (length b.outputs))
as_alone b f h = subst (λ (d : Firmware). IsFirmwareOf b d) (is_alone b f h) h

pub runs_beside : ExecutionLaws → FirmwareAnswersBeside → FirmwareRunsBeside
runs_beside laws answers open_to b f flags samples hf leaves v limits h all =
    let n = length b.outputs in
    let own = as_alone b f h in
    let mine = leaves_main open_to b f h leaves in
    let from = answers open_to b (alone f n) mine v limits own flags samples hf all in
    subst (λ (d : Firmware). RunsBeside open_to d flags samples) (sym (is_alone b f h))
    (beside laws open_to b f n flags samples from.0 hf v.few_outputs v.few_outputs own
    (all_short b samples v.few_inputs all) from.1.0 from.1.1)

first_alike : ArrivesPlainly → (open_to : ℕ → Bool) (b : Block) (f : Firmware) (n flags : ℕ) (mem : List ℕ)
    → length b.outputs ≤ 4 → IsFirmwareOf b (alone f n)
    → ArrivesAlike open_to main_map (image_memory f.image.bytes) mem flags
    → FirstAlike open_to (alone f n) flags mem (arrival flags 0xC008 f.step_bound (reset_with mem))
first_alike arrives_plainly open_to b f n flags mem few h a =
    let first : first_state (alone f n) flags ≡ a.image_state =
    first_is arrives_plainly open_to b f n flags a.image_state few h a.image_arrived in
    let at = a.image_arrived in
    let pc : a.state.regs.pc ≡ 0xC008 = ap (λ (r : Regs). r.pc) a.regs ∙ at.wait in
    let most = step_bound f.width b in
    let here : arrival flags 0xC008 f.step_bound (reset_with mem) ≡ a.state =
    ap (λ (k : ℕ). arrival flags 0xC008 k (reset_with mem)) h.steps
    ∙ arrives_plainly flags 0xC008 3 most (reset_with mem) a.state refl a.execution pc
    (enough_steps f.width b few) in
    let there : FirstAlike open_to (alone f n) flags mem a.state = record {
      regs = a.regs ∙ ap (λ (u : State). u.regs) (sym first);
      temps = a.temps ∙ ap (λ (u : State). u.temps) (sym first);
      bytes = subst (λ (u : State). Agree open_to a.state.mem u.mem) (sym first) a.bytes;
      open_bytes = a.open_bytes;
    } in
    subst (λ (u : State). FirstAlike open_to (alone f n) flags mem u) (sym here) there

pub first_states_alike : ArrivesPlainly → FirmwareArrivesAlike → FirstStatesAlike
first_states_alike arrives_plainly arrives open_to b f flags mem hf leaves v limits h agree =
    let own = as_alone b f h in
    subst (λ (d : Firmware). FirstAlike open_to d flags mem (arrival flags d.memory_map.wait d.step_bound
    (reset_with mem)))
    (sym (is_alone b f h))
    (first_alike arrives_plainly open_to b f _ flags mem v.few_outputs own
    (arrives open_to b _ mem flags hf (leaves_main open_to b f h leaves) v limits own agree))

-- such a state is the same but for what is hidden
pub first_states_agree : FirstStatesAgree
first_states_agree open_to f flags mem w h = record {
  regs = h.regs;
  temps = h.temps;
  mem = (let a = h.bytes in record {
    size = a.size;
    bytes = λ at shown. a.bytes at
        (or_parts (open_to at) (nat_le 0x1FE0 at && nat_lt at (first_state f flags).regs.sp) shown).0;
  });
}

pub answers_under_plans : Laws → AnswersUnderPlans
answers_under_plans laws f flags samples plan hf good b v limits h all =
    let n = length b.outputs in
    let same = is_alone b f h in
    let own : IsFirmwareOf b (alone f n) = subst (λ (d : Firmware). IsFirmwareOf b d) same h in
    let from = laws.firmware_answers b (alone f n) v limits own flags samples hf all in
    subst (λ (d : Firmware). AnswersUnder b d flags samples plan (firmware_rows d samples plan flags).rows) (sym same)
    (under laws b f n flags samples plan from.0 hf v.few_outputs v.few_outputs own
    (all_short b samples v.few_inputs all) good from.1.0 from.1.1)

-- and so do rows that are those of the run
pub answers_its_block : AnswersUnderPlans
    → (f : Firmware) (flags : ℕ) (samples : List (List ℕ)) (plan : List Request) (rows : List (RowSeen (List ℕ)))
    → flags < 2 ^ 8 → IsGood plan → rows ≡ (firmware_rows f samples plan flags).rows
    → AnswersItsBlock f flags samples plan rows
answers_its_block law f flags samples plan rows hf good e =
    subst (λ (rs : List (RowSeen (List ℕ))). AnswersItsBlock f flags samples plan rs) (sym e)
    (law f flags samples plan hf good)

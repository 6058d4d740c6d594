-- Where whole instructions answer all samples with their upsets, so do the rows under every good plan.
use Rattle.std.proofs.Common.{◌≡◌, ℕ, suc, ◌+◌, ◌-◌, ◌*◌, ◌^◌, ◌<◌, ◌≤◌, List, [], ◌∷◌, ◌++◌, length, map}
use Rattle.std.proofs.Common.{take, refl}
use Rattle.std.proofs.Common.{ap, sym, ◌∙◌, subst, arith, inl, inr, ◌⊎◌}
use Rattle.std.specs.Prelude.{All, slice_index}
use Rattle.std.proofs.lemmas.List.Elements.{All-cons}
use Rattle.fuzzy_meaning.specs.declared.block.Block.{Block}
use Rattle.cpu12_isa.specs.{Agreement.AgreeFrom, Regions.is_free, Regions.is_hidden, Regions.stack_end}
use Rattle.cpu12_isa.proofs.Algebra.{agree_self}
use Rattle.cpu12_parts.specs.{State.State, Executions.all_steps}
use Rattle.cpu12_emul.specs.{Image.image_memory, Step.reset_with, Simulation.OnStackOnly}
use Rattle.interrupt_plan.specs.declared.{Request.Request, upsets.Upset.Upset}
use Rattle.interrupt_plan.specs.{Plans.IsGood, Upsets.IsGoodUpset}
use Rattle.firmware_code.specs.{declared.firmware.Firmware.Firmware, Arrivals.IsArrived, Interruptible.is_idle}
use Rattle.eval_code.specs.declared.memory_map.MemoryMap.{MemoryMap}
use Rattle.eval_code.specs.{Bounds.steps_by, Bounds.instruction_bound, Firing.AreInputBytes}
use Rattle.byte_scaling.specs.{declared.width.Width.Width, declared.width.Width.TheVariants.Byte, Widths.places}
use Rattle.watched_code.specs.Watched.{Watched, changed, restored, upset_given, watched_answer, IsTableChange}
use Rattle.watched_code.specs.Watched.{IsGoodSample, IsWatchAnswered, AreWatchAnswered, IsWatchedFirmwareOf}
use Rattle.watched_code.specs.Watched.{watched_bound}
use Rattle.watched_code.specs.WatchedCode.{fault_at, watched_map}
use Rattle.run_law.specs.{Forms.rows_from, Uninterrupted.uninterrupted}
use Rattle.run_law.specs.Following.{Completes, AllComplete, AllWithin, AllFollow, expected_row, expected_rows}
use Rattle.firmware_runs.specs.Ports.{answers_at, answers_in}
use Rattle.alone_runs.specs.{Rows.requests_of, Rows.first_state, Following.IsLow, Following.Nothing}
use Rattle.firmware_runs.specs.Facts.{WaitsAlone}
use Rattle.firmware_runs.specs.Instructions.{AreSteps, IsServing}
use Rattle.watched_runs.specs.Samples.{change_of, changes_from, with_upsets}
use Rattle.watched_runs.specs.Forms.{given_changed, watched_form, FactsWatched}
use Rattle.watched_runs.specs.Rows.{FaultSeen, fault_seen, upset_rows, faults_of}
use Rattle.watched_runs.specs.Answering.{IsWatchedRow, AreWatchedRows, HoldsChange, AllHoldChanges}
use Rattle.watched_runs.specs.Answering.{AnswersUnderUpsets, AnswersUnderAllUpsets}
use Rattle.watched_runs.proofs.Answers.{length_answers, take_answers, fault_behind, answer_there}
use Rattle.watched_runs.proofs.{Changes.good_change, Changes.waits_restored, AtMoments.same_rows, UsedLaws.Laws}

-- what of a firmware its runs look at
record HasPorts (b : Block) (f : Firmware) : Type 0 where
  samples : f.memory_map.samples + 8 ≤ 65535
  answers : f.memory_map.outputs + 4 ≤ 65535
  tables : f.memory_map.tables ≡ 0xD000
  low : IsLow f
  few : length b.outputs ≤ 4
  outputs : f.outputs ≡ length b.outputs
  width : f.width ≡ Byte
  steps : f.step_bound ≡ steps_by b f.instr_bound
  enough : 3 ≤ f.step_bound

abbrev image : Firmware → List ℕ
image f = image_memory f.image.bytes

abbrev next : Block → Firmware → Watched → (ℕ → ℕ) → ℕ → ℕ
next b f x before = λ o. watched_answer b (image f) x o (before o)

abbrev Answered : Block → Firmware → ℕ → (ℕ → ℕ) → Watched → State → State → Type 0
Answered b f flags before x s t = IsWatchAnswered f.memory_map b f.instr_bound (image f) flags before x s t

abbrev AllAnswered : Block → Firmware → ℕ → (ℕ → ℕ) → List Watched → State → Type 0
AllAnswered b f flags before xs s = AreWatchAnswered f.memory_map b f.instr_bound (image f) flags before xs s

-- a sample that ends below the outputs' bytes, with a change of the tables
abbrev IsReady : Firmware → Watched → Type 0
IsReady f x = (length x.bytes ≤ 8) × IsTableChange f.memory_map f.image.bytes x.change

abbrev AllReady : Firmware → List Watched → Type 0
AllReady f [] = Unit {0}
AllReady f (x ∷ xs) = IsReady f x × AllReady f xs

-- the states of a sample's run
abbrev Served : Firmware → ℕ → Watched → List ℕ → State → State → Type 0
Served f flags x ds s t =
    AreSteps (IsServing is_free f.memory_map (changed x.change (image f)) flags) flags ds
    (given_changed f.memory_map x s) t

same_given : Laws → (f : Firmware) (x : Watched) (s : State) → f.memory_map.samples + 8 ≤ 65535 → length x.bytes ≤ 8
    → given_changed f.memory_map x s ≡ upset_given f.memory_map x s
same_given laws f x s l few =
    ap (λ (u : State). by u.mem) (laws.given_is_put f.memory_map x.bytes s (omega (arith, l, few)))
  where
    by : List ℕ → State
    by m = record s { mem = changed x.change m }

went : Laws → (b : Block) (f : Firmware) → HasPorts b f → (flags : ℕ) (before : ℕ → ℕ) (x : Watched) (s t : State)
    → flags < 2 ^ 8 → IsReady f x → (a : Answered b f flags before x s t) → Served f flags x a.ds s t
went laws b f p flags before x s t hf r a =
    let memory = changed x.change (image f) in
    subst (λ (u : State). AreSteps (IsServing is_free f.memory_map memory flags) flags a.ds u t)
    (sym (same_given laws f x s p.samples r.0))
    (laws.steps is_free f.memory_map memory flags a.ds (upset_given f.memory_map x s) t hf a.execution)

-- the numbers of steps of the samples
numbers : (b : Block) (f : Firmware) (flags : ℕ) (before : ℕ → ℕ) (xs : List Watched) (s : State)
    → AllAnswered b f flags before xs s → List ℕ
numbers b f flags before [] s h = []
numbers b f flags before (x ∷ xs) s h =
    all_steps h.1.0.ds ∷ numbers b f flags (next b f x before) xs (restored (image f) x.change h.0) h.1.1

within : (b : Block) (f : Firmware) (flags : ℕ) (before : ℕ → ℕ) (xs : List Watched) (s : State)
    → (h : AllAnswered b f flags before xs s) → AllWithin (steps_by b f.instr_bound) (numbers b f flags before xs s h)
unfolding numbers
within b f flags before [] s h = tt
within b f flags before (x ∷ xs) s h =
    (h.1.0.steps, within b f flags (next b f x before) xs (restored (image f) x.change h.0) h.1.1)

-- a sample's run ends where it waits, and keeps the facts
sampled : (b : Block) (f : Firmware) (flags : ℕ) (before : ℕ → ℕ) (x : Watched) (s t : State)
    → (a : Answered b f flags before x s t) → Served f flags x a.ds s t
    → Completes (FactsWatched flags) (watched_form flags f) 0 (all_steps a.ds) (all_steps a.ds)
    (given_changed f.memory_map x s)
sampled b f flags before x s t a g =
    record {
      sum = omega arith;
      holds = λ j l. (let k = g.each j l in record { facts = k.facts; stack = k.stack });
      on = λ j from l. (let k = g.each j l in k.busy);
      ended = ap (is_idle f.memory_map) g.goes ∙ a.idle;
    }

all_sampled : Laws → (b : Block) (f : Firmware) → HasPorts b f → (flags : ℕ) (before : ℕ → ℕ) (xs : List Watched)
    → (s : State) → flags < 2 ^ 8 → AllReady f xs → (h : AllAnswered b f flags before xs s)
    → AllComplete (FactsWatched flags) (watched_form flags f) (numbers b f flags before xs s h) xs s
unfolding numbers
all_sampled laws b f p flags before [] s hf r h = tt
all_sampled laws b f p flags before (x ∷ xs) s hf r h =
    let g = went laws b f p flags before x s h.0 hf r.0 h.1.0 in
    let later = next b f x before in
    let then = restored (image f) x.change in
    let rest = all_sampled laws b f p flags later xs (then h.0) hf r.1 h.1.1 in (
      sampled b f flags before x s h.0 h.1.0 g,
      subst (λ (u : State). AllComplete (FactsWatched flags) (watched_form flags f)
          (numbers b f flags later xs (then h.0) h.1.1) xs (then u)) (sym g.goes) rest,
    )

-- at each boundary of a sample the byte is changed
one_of : (j n : ℕ) → j ≤ n → (suc j ≤ n) ⊎ (j ≡ n)
one_of j n l = grind arith

holds_change : (b : Block) (f : Firmware) (flags : ℕ) (before : ℕ → ℕ) (x : Watched) (s t : State)
    → (a : Answered b f flags before x s t) → Served f flags x a.ds s t → HoldsChange flags f (all_steps a.ds) x s
holds_change b f flags before x s t a g j l = by (one_of j (all_steps a.ds) l)
  where
    memory : List ℕ
    memory = changed x.change (image f)

    first : State
    first = given_changed f.memory_map x s

    by : (suc j ≤ all_steps a.ds) ⊎ (j ≡ all_steps a.ds)
        → AgreeFrom stack_end memory (uninterrupted flags j (given_changed f.memory_map x s)).mem
    by (inl less) = let k = g.each j less in k.image
    by (inr e) =
        let end = a.interruptible in
        subst (λ (u : State). AgreeFrom stack_end memory u.mem)
        (sym (ap (λ (i : ℕ). uninterrupted flags i (given_changed f.memory_map x s)) e ∙ g.goes)) end.same

all_hold : Laws → (b : Block) (f : Firmware) → HasPorts b f → (flags : ℕ) (before : ℕ → ℕ) (xs : List Watched)
    → (s : State) → flags < 2 ^ 8 → AllReady f xs → WaitsAlone f s → (h : AllAnswered b f flags before xs s)
    → AllHoldChanges flags f (numbers b f flags before xs s h) xs s
unfolding numbers
all_hold laws b f p flags before [] s hf r w h = w
all_hold laws b f p flags before (x ∷ xs) s hf r w h =
    let g = went laws b f p flags before x s h.0 hf r.0 h.1.0 in
    let later = next b f x before in
    let then = restored (image f) x.change in
    let one = h.1.0 in
    let waits = waits_restored f x.change h.0 r.0.1 one.interruptible in
    let rest = all_hold laws b f p flags later xs (then h.0) hf r.1 waits h.1.1 in (
      w,
      holds_change b f flags before x s h.0 h.1.0 g,
      subst (λ (u : State). AllHoldChanges flags f (numbers b f flags later xs (then h.0) h.1.1) xs (then u))
          (sym g.goes) rest,
    )

-- what stands where output o's answer is
value_is : (b : Block) (f : Firmware) → HasPorts b f → (t : State) (o a : ℕ) → 1 ≤ o → o ≤ length b.outputs
    → slice_index t.mem (f.memory_map.outputs + 1 * (o - 1)) ≡ a → slice_index (answers_in f t) (o - 1) ≡ a
value_is b f p t o a from to e =
    let n = p.outputs in
    let few = p.few in
    let room = p.answers in
    let at : f.memory_map.outputs + (o - 1) ≡ f.memory_map.outputs + 1 * (o - 1) = omega arith in
    ap (λ (w : Width). slice_index (answers_at w f.outputs f.memory_map.outputs t.mem) (o - 1)) p.width
    ∙ answer_there f.outputs f.memory_map.outputs t.mem (o - 1) (omega (arith, n, from, to))
    (omega (arith, n, few, room))
    ∙ ap (λ (i : ℕ). slice_index t.mem i) at ∙ e

-- a sample's row
row_is : (b : Block) (f : Firmware) → HasPorts b f → (flags : ℕ) (before : ℕ → ℕ) (x : Watched) (s t : State)
    → (qs : List Request) (a : Answered b f flags before x s t) → Served f flags x a.ds s t
    → IsWatchedRow b f before x (fault_seen f.outputs
    (expected_row (watched_form flags f) qs (all_steps a.ds) x (given_changed f.memory_map x s)))
row_is b f p flags before x s t qs a g =
    let end = uninterrupted flags (all_steps a.ds) (given_changed f.memory_map x s) in
    let at = f.memory_map.outputs in
    let fault = slice_index end.mem fault_at in
    let seen : take f.outputs (answers_in f end ++ fault ∷ []) ≡ answers_in f t =
    take_answers f.width f.outputs at end.mem fault ∙ ap (answers_in f) g.goes in
    record {
      sample = refl;
      values = λ o from to.
          (let there = a.answers o from to in
          ap (λ (vs : List ℕ). slice_index vs (o - 1)) seen ∙ value_is b f p t o (next b f x before o) from to there.0);
      count = ap length seen ∙ length_answers f.width f.outputs at t.mem ∙ p.outputs;
      fault = fault_behind f.width f.outputs at end.mem fault ∙ ap (λ (u : State). slice_index u.mem fault_at) g.goes
          ∙ a.fault;
      instructions = subst (λ (n : ℕ). n ≤ f.instr_bound) (sym g.counts) a.instructions;
      steps = subst (λ (n : ℕ). all_steps a.ds ≤ n) (sym p.steps) a.steps;
    }

all_rows : Laws → (b : Block) (f : Firmware) → HasPorts b f → (flags : ℕ) (before : ℕ → ℕ) (plan : List Request)
    → (k : ℕ) (xs : List Watched) (s : State) → flags < 2 ^ 8 → AllReady f xs
    → (h : AllAnswered b f flags before xs s)
    → AreWatchedRows b f before xs (map (fault_seen f.outputs) (expected_rows (watched_form flags f)
    (λ j. requests_of j plan) k (numbers b f flags before xs s h) xs s))
unfolding numbers
all_rows laws b f p flags before plan k [] s hf r h = tt
all_rows laws b f p flags before plan k (x ∷ xs) s hf r h =
    let g = went laws b f p flags before x s h.0 hf r.0 h.1.0 in
    let later = next b f x before in
    let then = restored (image f) x.change in
    let rest = all_rows laws b f p flags later plan (suc k) xs (then h.0) hf r.1 h.1.1 in (
      row_is b f p flags before x s h.0 (requests_of k plan) h.1.0 g,
      subst (λ (u : State). AreWatchedRows b f later xs (map (fault_seen f.outputs)
          (expected_rows (watched_form flags f) (λ j. requests_of j plan) (suc k)
          (numbers b f flags later xs (then h.0) h.1.1) xs (then u)))) (sym g.goes) rest,
    )

-- good samples
all_ready : (b : Block) (f : Firmware) (upsets : List Upset) (k : ℕ) (samples : List (List ℕ))
    → length b.inputs ≤ 8 → f.memory_map.tables ≡ 0xD000 → All (IsGoodUpset f.image.bytes) upsets
    → All (AreInputBytes b) samples
    → AllReady f (changes_from k upsets samples)
all_ready b f upsets k [] few tables good all = tt
all_ready b f upsets k (bytes ∷ samples) few tables good all =
    let i = all 0 bytes (omega arith) in
    let count = i.count in (
      (omega (arith, count, few), good_change f.memory_map f.image.bytes k upsets tables good),
      all_ready b f upsets (suc k) samples few tables good (λ j d lt. all (suc j) d (omega arith)),
    )

all_good : (b : Block) (f : Firmware) (upsets : List Upset) (k : ℕ) (samples : List (List ℕ))
    → f.memory_map.tables ≡ 0xD000 → All (IsGoodUpset f.image.bytes) upsets
    → All (AreInputBytes b) samples
    → All (IsGoodSample b f.memory_map f.image.bytes) (changes_from k upsets samples)
all_good b f upsets k [] tables good all = λ j d lt. absurd (omega arith)
all_good b f upsets k (bytes ∷ samples) tables good all =
    All-cons (IsGoodSample b f.memory_map f.image.bytes) (record { bytes = bytes; change = change_of k upsets })
    (changes_from (suc k) upsets samples)
    (record { bytes = all 0 bytes (omega arith); change = good_change f.memory_map f.image.bytes k upsets tables good })
    (all_good b f upsets (suc k) samples tables good (λ j d lt. all (suc j) d (omega arith)))

-- a firmware waits first where it arrives first
first_is : Laws → (b : Block) (f : Firmware) → HasPorts b f → (flags : ℕ) (s : State)
    → IsArrived f.memory_map (image f) flags s → first_state f flags ≡ s
first_is laws b f p flags s a =
    laws.arrives_plainly flags f.memory_map.wait 3 f.step_bound (reset_with (image f)) s refl a.execution a.wait
    p.enough

-- the rows of a firmware that waits first in s
under : Laws → (b : Block) (f : Firmware) → HasPorts b f → (flags : ℕ) (samples : List (List ℕ)) (plan : List Request)
    → (upsets : List Upset) (s : State) → flags < 2 ^ 8 → IsGood plan → AllReady f (with_upsets upsets samples)
    → IsArrived f.memory_map (image f) flags s → AllAnswered b f flags (λ o. 0) (with_upsets upsets samples) s
    → AnswersUnderUpsets b f flags samples plan upsets (faults_of f (upset_rows f samples plan upsets flags))
under laws b f p flags samples plan upsets s hf good ready a answered =
    let g = watched_form flags f in
    let xs = with_upsets upsets samples in
    let asks : ℕ → List Request = λ k. requests_of k plan in
    let ns = numbers b f flags (λ o. 0) xs s answered in
    let first : first_state f flags ≡ s = first_is laws b f p flags s a in
    let bounded : AllWithin f.step_bound ns =
    subst (λ (m : ℕ). AllWithin m ns) (sym p.steps) (within b f flags (λ o. 0) xs s answered) in
    let complete : AllComplete (FactsWatched flags) g ns xs s =
    all_sampled laws b f p flags (λ o. 0) xs s hf ready answered in
    let c = a.interruptible in
    let waits : WaitsAlone f s =
    record { image = c.same; stack = c.stack; unmasked = c.mask; sums = c.temps } in
    let runs : AllFollow OnStackOnly is_free g Nothing [] asks 1 ns xs s (rows_from g f.step_bound asks 1 xs s) =
    laws.runs_follow flags f p.low asks (laws.requests_are_good plan good) [] 1 f.step_bound ns xs s s bounded
    (λ k d lt done u own. tt) complete
    (record { regs = refl; temps = refl; mem = agree_self (is_hidden is_free s.regs.sp) s.mem }) tt in
    let follows : AllFollow OnStackOnly is_free g Nothing [] asks 1 ns xs (first_state f flags)
    (upset_rows f samples plan upsets flags) =
    subst (λ (u : State). AllFollow OnStackOnly is_free g Nothing [] asks 1 ns xs u
    (rows_from g f.step_bound asks 1 xs u))
    (sym first) runs in
    let expected : State → List FaultSeen = λ u. map (fault_seen f.outputs) (expected_rows g asks 1 ns xs u) in
    let rows_are : faults_of f (upset_rows f samples plan upsets flags) ≡ expected (first_state f flags) =
    ap (map (fault_seen f.outputs)) follows.rows_are in
    let completes : AllComplete (FactsWatched flags) g ns xs (first_state f flags) =
    subst (λ (u : State). AllComplete (FactsWatched flags) g ns xs u) (sym first) complete in
    record {
      answers = subst (λ (rs : List FaultSeen). AreWatchedRows b f (λ o. 0) xs rs)
          (sym (rows_are ∙ ap expected first)) (all_rows laws b f p flags (λ o. 0) plan 1 xs s hf ready answered);
      steps = ns;
      complete = completes;
      changes = subst (λ (u : State). AllHoldChanges flags f ns xs u) (sym first)
          (all_hold laws b f p flags (λ o. 0) xs s hf ready waits answered);
      rows_are = rows_are ∙ same_rows laws.taken_at_once flags f plan 1 ns xs (first_state f flags) completes;
      follows = follows;
    }

enough_steps : (b : Block) → length b.outputs ≤ 4 → 3 ≤ steps_by b (watched_bound b)
unfolding steps_by instruction_bound watched_bound
enough_steps b few = omega arith

few_answers : (w : Width) (n : ℕ) → w ≡ Byte → n ≤ 4 → places w * n ≤ 4
few_answers w n e few =
    subst (λ (k : ℕ). k * n ≤ 4) (sym (ap places e)) (let one : 1 * n ≤ 4 = omega arith in one)

ports : (b : Block) (f : Firmware) → length b.outputs ≤ 4 → IsWatchedFirmwareOf b f → HasPorts b f
ports b f few h =
    let at : (g : MemoryMap → ℕ) → g f.memory_map ≡ g (watched_map b) = λ g. ap g h.memory_map in
    let samples : f.memory_map.samples ≡ 0x1001 = at (λ l. l.samples) in
    let outputs : f.memory_map.outputs ≡ 0x1010 = at (λ l. l.outputs) in
    let ready : f.memory_map.sample_flag ≡ 0x1000 = at (λ l. l.sample_flag) in
    let n = h.outputs in
    let size = few_answers f.width f.outputs h.width (omega (arith, n, few)) in
    let steps : f.step_bound ≡ steps_by b f.instr_bound = h.steps ∙ sym (ap (steps_by b) h.instructions) in
    record {
      samples = omega (arith, samples);
      answers = omega (arith, outputs);
      tables = at (λ l. l.tables);
      low = record { ready = omega (arith, ready); outputs = omega (arith, outputs, size) };
      few = few;
      outputs = n;
      width = h.width;
      steps = steps;
      enough = subst (λ (k : ℕ). 3 ≤ k) (sym h.steps) (enough_steps b few);
    }

pub answers_under_all_upsets : Laws → AnswersUnderAllUpsets
answers_under_all_upsets laws f flags samples plan upsets hf good goods b valid limits h all =
    let p = ports b f valid.few_outputs h in
    let xs = with_upsets upsets samples in
    let from = laws.watched_answers b f valid limits h flags xs hf
    (all_good b f upsets 1 samples p.tables goods.each all) in
    let ready = all_ready b f upsets 1 samples valid.few_inputs p.tables goods.each all in
    under laws b f p flags samples plan upsets from.0 hf good ready from.1.0 from.1.1

-- A run that comes to its end is one, whatever bound of steps it is given.
use Rattle.std.proofs.Common.{◌≡◌, ◌≢◌, ◌<◌, ◌⊎◌, ◌∙◌, ℕ, zero, suc, Bool, true, false, Result, Ok, Err, List, [], ◌∷◌}
use Rattle.std.proofs.Common.{arith, ap, ap₂, inl, inr, refl, subst, sym}
use Rattle.std.specs.Prelude.{if◌then◌else◌, length, map}
use Rattle.std.proofs.lemmas.Bool.{and_parts, false≢true}
use Rattle.cpu12_asm.specs.declared.image.Image.{Image}
use Rattle.cpu12_emul.specs.{Image.image_memory, Image.ImagesLoadAlike, Step.Next, Step.is_part, Step.reset_with}
use Rattle.cpu12_parts.specs.State.{State}
use Rattle.fcl_check.specs.OneBlock.{SpelledBlocksAreOne}
use Rattle.fuzzy_meaning.specs.declared.block.Block.{Block}
use Rattle.interrupt_plan.specs.declared.Request.{Request}
use Rattle.run_law.specs.Forms.{Form, Ran, Rows, Taking, before_rest, ended, put_row, row_of, rows_from, run_from}
use Rattle.run_law.specs.Forms.{takes, then_rest}
use Rattle.run_law.specs.Uninterrupted.{uninterrupted}
use Rattle.run_reports.specs.{Inputs.PlansAreExact, Inputs.TracesAreExact, Reports.left_of}
use Rattle.srecord.specs.Laws.{ImagesAreOne}
use Rattle.trace_io.specs.Traces.{Spells as SpellsTrace, input_bytes}
use Rattle.promise.specs.{Bench.IsFirstAtLoop, Bench.IsRunOf, Bench.bench, Bench.loop, Bench.requests_in}
use Rattle.promise.specs.{OneRun.PromisedRowsAreOne}

-- ---- the run of a sample

-- the end or one more step, whichever the rest is
one_step : {A B : Type 0} (b inside : Bool) (x : Ran A B) (t : Taking A B) (more rest : Bool → State → Ran A B)
    (o : Result Next ℕ)
    → ((i : Bool) (v : State) → (more i v).arrived ≡ true → (rest i v).arrived ≡ true → more i v ≡ rest i v)
    → (if b then x else then_rest inside t more o).arrived ≡ true
    → (if b then x else then_rest inside t rest o).arrived ≡ true
    → (if b then x else then_rest inside t more o) ≡ (if b then x else then_rest inside t rest o)
one_step true inside x t more rest o ih h k = refl
one_step false inside x t more rest (Ok next) ih h k =
    ap (before_rest inside t next.kind) (ih (is_part next.kind) next.state h k)
one_step false inside x t more rest (Err byte) ih h k = refl

at_once : {A B : Type 0} (b : Bool) (qs : List A) (s : State) (x : Ran A B) → b ≡ true
    → ended b qs s ≡ (if b then ended true qs s else x)
at_once true qs s x e = refl
at_once false qs s x e = absurd (false≢true e)

one_sample : {S A B : Type 0} (f : Form S A B) (m n k : ℕ) (inside : Bool) (qs : List A) (s : State)
    → (run_from f m k inside qs s).arrived ≡ true → (run_from f n k inside qs s).arrived ≡ true
    → run_from f m k inside qs s ≡ run_from f n k inside qs s
unfolding run_from
one_sample f zero zero k inside qs s h g = refl
one_sample f zero (suc n) k inside qs s h g = at_once (f.ends k s) qs s _ h
one_sample f (suc m) zero k inside qs s h g = sym (at_once (f.ends k s) qs s _ g)
one_sample f (suc m) (suc n) k inside qs s h g =
    let t = takes f k qs s in
    one_step (f.ends k s) inside _ t _ _ _
    (λ i v a b. one_sample f m n (suc k) i t.left v a b) h g

-- ---- and of samples

one_run : {S A B : Type 0} (f : Form S A B) (m n : ℕ) (asks : ℕ → List A) (k : ℕ) (xs : List S) (w : State)
    → (rows_from f m asks k xs w).arrived ≡ true → (rows_from f n asks k xs w).arrived ≡ true
    → rows_from f m asks k xs w ≡ rows_from f n asks k xs w
unfolding rows_from
one_run f m n asks k [] w h g = refl
one_run {S} {A} {B} f m n asks k (x ∷ rest) w h g =
    ap₂ (λ (r : Ran A B) (rs : Rows S A B). put_row (row_of f x r) r rs) e
    (one_run f m n asks (suc k) rest (f.leave x a.state) (and_parts _ _ h).1
    (subst (λ (r : Ran A B). (after n r).arrived ≡ true) (sym e) (and_parts _ _ g).1) ∙ ap (after n) e)
  where
    a : Ran A B
    a = run_from f m 0 false (asks k) (f.give x w)

    after : ℕ → Ran A B → Rows S A B
    after most r = rows_from f most asks (suc k) rest (f.leave x r.state)

    e : a ≡ run_from f n 0 false (asks k) (f.give x w)
    e = one_sample f m n 0 false (asks k) (f.give x w) (and_parts _ _ h).0 (and_parts _ _ g).0

-- ---- from the first state at LOOP

first_once : (flags m n : ℕ) (r : State) → (uninterrupted flags m r).regs.pc ≡ loop
    → (uninterrupted flags n r).regs.pc ≡ loop → ((j : ℕ) → j < m → (uninterrupted flags j r).regs.pc ≢ loop)
    → ((j : ℕ) → j < n → (uninterrupted flags j r).regs.pc ≢ loop) → m ≡ n
first_once flags m n r a b before other = by (order m n)
  where
    order : (i j : ℕ) → (i < j) ⊎ ((j < i) ⊎ (i ≡ j))
    order i j = grind arith

    by : (m < n) ⊎ ((n < m) ⊎ (m ≡ n)) → m ≡ n
    by (inl l) = absurd (other m l a)
    by (inr (inl l)) = absurd (before n l b)
    by (inr (inr e)) = e

firsts_are_one : (flags : ℕ) (x y : Image) (s t : State) → image_memory x.bytes ≡ image_memory y.bytes
    → IsFirstAtLoop flags x s → IsFirstAtLoop flags y t → s ≡ t
firsts_are_one flags x y s t memory p q =
    let from : ℕ → List ℕ → State = λ n mem. uninterrupted flags n (reset_with mem) in
    let other : t ≡ from q.steps (image_memory x.bytes) = q.state ∙ ap (from q.steps) (sym memory) in
    let same : p.steps ≡ q.steps =
    first_once flags p.steps q.steps (reset_with (image_memory x.bytes))
    (ap (λ (u : State). u.regs.pc) (sym p.state) ∙ p.there) (ap (λ (u : State). u.regs.pc) (sym other) ∙ q.there)
    p.before
    (subst (λ (mem : List ℕ). (j : ℕ) → j < q.steps → (from j mem).regs.pc ≢ loop) (sym memory) q.before) in
    p.state ∙ ap (λ (n : ℕ). from n (image_memory x.bytes)) same ∙ sym other

pub promised_rows_are_one : SpelledBlocksAreOne → ImagesAreOne → ImagesLoadAlike → TracesAreExact → PlansAreExact
    → PromisedRowsAreOne
promised_rows_are_one blocks images load traces plans width flags files r s t u p q = (
  x.rows_are ∙ ap (λ (a : Rows (List ℕ) Request (Unit {0})). a.rows) same ∙ sym y.rows_are,
  ap (λ (v : State). left_of v.mem)
      (x.last_is ∙ ap (λ (a : Rows (List ℕ) Request (Unit {0})). a.state) same ∙ sym y.last_is),
)
  where
    x : IsRunOf (bench width (length p.block.outputs) flags) (requests_in p.plan) (map input_bytes p.samples)
        p.serves.first r.rows p.serves.last
    x = (let serves = p.serves in serves.ran)

    y : IsRunOf (bench width (length q.block.outputs) flags) (requests_in q.plan) (map input_bytes q.samples)
        q.serves.first s.rows q.serves.last
    y = (let serves = q.serves in serves.ran)

    block : p.block ≡ q.block
    block = blocks files.fcl p.block q.block p.spelled q.spelled

    bytes : map input_bytes p.samples ≡ map input_bytes q.samples
    bytes =
        ap (λ (seen : ℕ × List (List ℕ)). seen.1)
        ((let trace = traces p.block files.inputs.trace in trace.one) p.samples q.samples p.in_range
        (subst (λ (b : Block). SpellsTrace b.inputs files.inputs.trace q.samples) (sym block) q.in_range))

    plan : p.plan ≡ q.plan
    plan = (let plan = plans files.inputs.plan in plan.one) p.plan q.plan p.free_writes q.free_writes

    first : p.serves.first ≡ q.serves.first
    first =
        firsts_are_one flags p.image q.image p.serves.first q.serves.first
        (load p.image.bytes q.image.bytes (images files.image p.image q.image p.records q.records).1)
        p.serves.waits q.serves.waits

    -- the run of the one with so many steps is the run of the other's parts
    ran : ℕ → Block → List Request → List (List ℕ) → State → Rows (List ℕ) Request (Unit {0})
    ran most b requests samples v =
        rows_from (bench width (length b.outputs) flags) most (requests_in requests) 1 samples v

    there : (most : ℕ) → ran most q.block q.plan (map input_bytes q.samples) q.serves.first
        ≡ ran most p.block p.plan (map input_bytes p.samples) p.serves.first
    there most = λ i. ran most (sym block i) (sym plan i) (sym bytes i) (sym first i)

    same : ran x.most p.block p.plan (map input_bytes p.samples) p.serves.first
        ≡ ran y.most q.block q.plan (map input_bytes q.samples) q.serves.first
    same =
        one_run (bench width (length p.block.outputs) flags) x.most y.most (requests_in p.plan) 1
        (map input_bytes p.samples) p.serves.first x.arrived
        (ap (λ (a : Rows (List ℕ) Request (Unit {0})). a.arrived) (sym (there y.most)) ∙ y.arrived)
        ∙ sym (there y.most)

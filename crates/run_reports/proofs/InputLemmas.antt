-- What a trace and a plan spell is seen as one thing, and then nothing refuses them; and what refuses them is one.
use Rattle.std.proofs.Common.{◌≡◌, ◌∙◌, ℕ, List, [], ◌∷◌, ap, ap₂, length, refl, subst, sym}
use Rattle.std.proofs.lemmas.List.{length-map}
use Rattle.std.specs.Prelude.{Some, map}
use Rattle.byte_scaling.specs.Cells.{bytes_of}
use Rattle.fuzzy_meaning.specs.declared.{block.Block.Block, block.Input.Input}
use Rattle.trace_io.specs.OneReading.{FirstFaultsAreOne, FirstRowsAreOne, SpelledTracesHaveNoFault}
use Rattle.trace_io.specs.Traces.{Fields, HasFault, SpellSamples, Spells, input_bytes}
use Rattle.trace_io.specs.declared.{sample.Sample.Sample, sample.TraceFault.TraceFault}
use Rattle.fz_status.specs.declared.status.Status.{Status}
use Rattle.fz_status.specs.declared.status.Status.TheVariants as status
use Rattle.command_parts.proofs.Algebra.{exact_of}
use Rattle.interrupt_plan.specs.OneReading.{PlanFaultsAreOne, SpelledPlansAreOne, SpelledPlansHaveNoFault}
use Rattle.interrupt_plan.specs.{Plans.HasFault as PlanHasFault, Plans.Spells as SpellsPlan}
use Rattle.interrupt_plan.specs.declared.PlanFault.{PlanFault}
use Rattle.command_parts.specs.Readings.{IsExact}
use Rattle.run_reports.specs.Inputs.{PlansAreExact, TracesAreExact, row_refusals, rows_in, trace_in, trace_refusals}

samples_once : (is : List Input) (rows : List Fields) (ss ts : List Sample) → SpellSamples is rows ss
    → SpellSamples is rows ts → map input_bytes ss ≡ map input_bytes ts
samples_once is [] [] [] a b = refl
samples_once is [] [] (t ∷ ts) a b = absurd b
samples_once is [] (s ∷ ss) ts a b = absurd a
samples_once is (r ∷ rs) [] ts a b = absurd a
samples_once is (r ∷ rs) (s ∷ ss) [] a b = absurd b
samples_once is (r ∷ rs) (s ∷ ss) (t ∷ ts) a b =
    let values : s.values ≡ t.values = let e : Some s.values ≡ Some t.values = sym a.0.values ∙ b.0.values in cc in
    ap₂ (λ (x : List ℕ) (xs : List (List ℕ)). x ∷ xs) (a.0.bytes ∙ ap (bytes_of is) values ∙ sym b.0.bytes)
    (samples_once is rs ss ts a.1 b.1)

samples_are_one : FirstRowsAreOne → (inputs : List Input) (trace : List ℕ) (samples those : List Sample)
    → Spells inputs trace samples → Spells inputs trace those → map input_bytes samples ≡ map input_bytes those
samples_are_one one inputs trace samples those a b =
    samples_once inputs a.rows samples those a.spelled
    (subst (λ (rows : List Fields). SpellSamples inputs rows those) (one trace a.rows b.rows a.first b.first)
    b.spelled)

trace_has : (block : Block) (text : List ℕ) (s : Status) → trace_refusals block text s
    → (f : TraceFault) × (s ≡ status.Trace f) × HasFault block.inputs text f
trace_has block text (status.Trace f) w = (f, refl, w)
trace_has block text s w = absurd w

count_once : (samples those : List Sample) → map input_bytes samples ≡ map input_bytes those
    → length samples ≡ length those
count_once samples those same =
    sym (length-map samples input_bytes) ∙ ap length same ∙ length-map those input_bytes

pub traces_exact : FirstRowsAreOne → SpelledTracesHaveNoFault → FirstFaultsAreOne → TracesAreExact
traces_exact one stand faults block text =
    exact_of (trace_in block text) status.Trace (HasFault block.inputs text) (λ f. tt) (trace_has block text)
    (λ samples those a b. (let same = samples_are_one one block.inputs text samples those a b in
    let count = count_once samples those same in
    λ i. (count i, same i))) (λ samples f a carries w. stand block.inputs text samples f a w)
    (λ f g c d v w. faults block.inputs text f g v w)

rows_have : (Has : PlanFault → Type 0) (s : Status) → row_refusals Has s → (f : PlanFault) × (s ≡ status.Plan f) × Has f
rows_have Has (status.Plan f) w = (f, refl, w)
rows_have Has s w = absurd w

pub rows_exact : {E : Type 0} (Spells : List E → Type 0) (Has : PlanFault → Type 0)
    → ((es others : List E) → Spells es → Spells others → es ≡ others)
    → ((es : List E) (f : PlanFault) → Spells es → Has f → ⊥) → ((f g : PlanFault) → Has f → Has g → f ≡ g)
    → IsExact (rows_in Spells Has)
rows_exact {E} Spells Has one stand faults =
    exact_of (rows_in Spells Has) status.Plan Has (λ f. tt) (rows_have Has) one (λ es f a carries w. stand es f a w)
    (λ f g c d v w. faults f g v w)

pub plans_exact : SpelledPlansAreOne → SpelledPlansHaveNoFault → PlanFaultsAreOne → PlansAreExact
plans_exact one stand faults text =
    rows_exact (SpellsPlan text) (PlanHasFault text) (one text) (stand text) (faults text)

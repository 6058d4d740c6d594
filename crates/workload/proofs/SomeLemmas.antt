-- Each number draws a workload.
use Rattle.std.proofs.Common.{arith, ◌≡◌, ◌≤◌, ◌+◌, ◌*◌, ◌∙◌, ℕ, zero, suc, List, [], ◌∷◌, ◌++◌, map, refl, ap}
use Rattle.std.specs.List.{range_with_len}
use Rattle.byte_scaling.specs.Cells.{bytes_of}
use Rattle.csv.specs.Writing.{default_writer, row_text}
use Rattle.fz_num.specs.declared.dec.Dec.{Dec}
use Rattle.interrupt_plan.specs.{Plans.SpellsRequest}
use Rattle.trace_io.specs.{Traces.SpellsSample, declared.sample.Sample.Sample}
use Rattle.workload.specs.{Draws.draw, Laws.DrawnTextsSpellBlocks, Laws.NumbersHaveWorkloads, Texts.fcl_text}
use Rattle.workload.specs.{Texts.request_fields, Texts.sample_fields, Workloads.drawn_request, Workloads.drawn_values}
use Rattle.workload.proofs.{ListLemmas.made_more, RowLemmas.Writes, RowLemmas.writes_more, RowLemmas.writes_none}
use Rattle.workload.proofs.PlanLemmas.{plan_spells, request_row, requests_drawn, spells_made}
use Rattle.workload.proofs.TraceLemmas.{pair, sample_row, samples_drawn, spells_drawn, trace_spells, values_count}

made_next : {X : Type 0} (f : ℕ → X) (n : ℕ)
    → map f (range_with_len 0 (suc n)) ≡ map f (range_with_len 0 n) ++ (f n ∷ [])
made_next f n =
    let next : suc n ≡ n + 1 = omega arith in
    ap (λ (k : ℕ). map f (range_with_len 0 k)) next ∙ made_more f n

module _ (number : ℕ) where
  abbrev drawn_sample : ℕ → Sample
  drawn_sample k =
      record { values = drawn_values number k; bytes = record { items = bytes_of pair (drawn_values number k) } }

  trace_of : (n : ℕ)
      → (text : List ℕ) × Writes (SpellsSample pair) text (map drawn_sample (range_with_len 0 n))
  trace_of zero = ([], writes_none (SpellsSample pair))
  trace_of (suc n) =
      let before = trace_of n in
      let x = draw number (1 + 2 * n) 2560001 in
      let y = draw number (2 + 2 * n) 2560001 in
      let x_to : x ≤ 2560000 = omega arith in
      let y_to : y ≤ 2560000 = omega arith in (
        before.0 ++ row_text default_writer (sample_fields (x, y)),
        writes_more (SpellsSample pair) before.0 _ (map drawn_sample (range_with_len 0 n)) _ (sample_fields (x, y))
            (drawn_sample n) before.1 (sample_row x y (omega (arith, x_to)))
            (spells_drawn x y (drawn_sample n) x_to y_to refl refl) refl (made_next drawn_sample n),
      )

  values_are : (ks : List ℕ) → map (λ (s : Sample). s.values) (map drawn_sample ks) ≡ map (drawn_values number) ks
  values_are [] = refl
  values_are (k ∷ ks) = ap (λ (vs : List (List Dec)). drawn_values number k ∷ vs) (values_are ks)

  plan_of : (n : ℕ) → n ≤ 1000
      → (text : List ℕ) × Writes SpellsRequest text (map (drawn_request number) (range_with_len 0 n))
  plan_of zero few = ([], writes_none SpellsRequest)
  plan_of (suc n) few =
      let before = plan_of n (omega (arith, few)) in
      let moment = draw number (2001 + 3 * n) 456 in
      let at = draw number (2002 + 3 * n) 2016 in
      let value = draw number (2003 + 3 * n) 256 in
      let fields = request_fields (n + 1) (moment, at, value) in (
        before.0 ++ row_text default_writer fields,
        writes_more SpellsRequest before.0 _ (map (drawn_request number) (range_with_len 0 n)) _ fields
            (drawn_request number n) before.1 (request_row (n + 1) moment at value (omega (arith, few)))
            (spells_made (n + 1) moment at value (omega arith) (omega (arith, few)) (omega arith) (omega arith)
            (omega arith))
            refl (made_next (drawn_request number) n),
      )

pub have_workloads : DrawnTextsSpellBlocks → NumbersHaveWorkloads
have_workloads texts number =
    let shift = draw number 0 5 in
    let trace = trace_of number 1000 in
    let plan = plan_of number 1000 (omega arith) in
    let samples = map (drawn_sample number) (range_with_len 0 1000) in
    let requests = map (drawn_request number) (range_with_len 0 1000) in
    let values = values_are number (range_with_len 0 1000) in (
      fcl_text shift,
      trace.0,
      plan.0,
      samples,
      requests,
      record {
        spelled = (texts shift (omega arith)).0;
        block_is = refl;
        in_trace = trace_spells trace.0 samples trace.1 (omega (arith, values_count number 1000 samples values));
        drawn_samples = samples_drawn number samples values;
        in_plan = plan_spells number plan.0 requests plan.1 refl;
        drawn_requests = requests_drawn number requests refl;
      },
    )

use Rattle.std.proofs.Common.{arith, ◌≡◌, ◌+◌, ◌*◌, ℕ, List, [], ◌∷◌, length, length-append, map, ap, ◌∙◌, pos}
use Rattle.std.specs.List.{range_with_len}
use Rattle.csv.specs.Writing.{default_writer, row_text}
use Rattle.fz_num.specs.declared.dec.Dec.{Dec}
use Rattle.trace_io.specs.Traces.{SpellsSample}
use Rattle.workload.specs.{Draws.state_after, Texts.sample_fields, Workloads.drawn_values, Workloads.place}
use Rattle.workload.proofs.RowLemmas.{writes_more}
use Rattle.workload.proofs.TraceLemmas.{pair, sample_length, sample_row, samples_drawn, spells_drawn, trace_spells}
use Rattle.workload.proofs.TraceLemmas.{values_more}
use Rattle.workload.proofs.traces.drawn_trace.Goals as goal

abbrev pair_of : ℕ × ℕ → List Dec
pair_of p = record { 0 = pos p.0 } ∷ record { 0 = pos p.1 } ∷ []

pub loop-row-preserved : goal.loop-row-preserved
loop-row-preserved c =
    let n = c.loop-row._row in
    let inv = c.loop-row.invariant in
    let x = c.sample-x.result.0 in
    let y = c.sample-x.result.1 in
    let row = c.in_ok-text.ensures in
    record {
      state = λ number begun.
          c.sample-x.ensures.state number (1 + 2 * n) (inv.state number begun)
          ∙ ap (state_after number) (omega arith);
      values = λ number begun.
          let drawn = c.sample-x.ensures.value number (1 + 2 * n) (inv.state number begun) in
          values_more number n c.loop-row.samples.items _ _ (inv.values number begun)
          (c.in_ok-sample_of.ensures.values ∙ ap pair_of drawn
          ∙ ap (λ (k : ℕ). place number (1 + 2 * n) ∷ place number k ∷ []) (omega arith))
          c.in_ok-push.ensures.items;
      rows = writes_more (SpellsSample pair) c.loop-row.text.items _ c.loop-row.samples.items _ (sample_fields (x, y)) _
          inv.rows (sample_row x y (omega (arith, c.sample-x.ensures.small.0)))
          (spells_drawn x y _ c.sample-x.ensures.small.0 c.sample-x.ensures.small.1 c.in_ok-sample_of.ensures.values
          c.in_ok-sample_of.ensures.bytes) row c.in_ok-push.ensures.items;
      count = omega (
        arith,
        inv.count,
        ap length c.in_ok-push.ensures.items,
        length-append c.loop-row.samples.items (c.in_ok-sample_of.field-0 ∷ []),
      );
      size = omega (
        arith,
        inv.size,
        ap length row,
        length-append c.loop-row.text.items (row_text default_writer (sample_fields (x, y))),
        sample_length x y (omega (arith, c.sample-x.ensures.small.0)) (omega (arith, c.sample-x.ensures.small.1)),
      );
    }

pub returns : goal.returns
returns c =
    let inv = c.loop-row.invariant in
    let all : c.loop-row._row ≡ 1000 = omega (arith, c.loop-row-test.false, c.loop-row.auto._row-end) in
    record {
      state = λ number begun. inv.state number begun ∙ ap (λ (n : ℕ). state_after number (1 + 2 * n)) all;
      drawn = λ number begun. samples_drawn number c.loop-row.samples.items
          (inv.values number begun ∙ ap (λ (n : ℕ). map (drawn_values number) (range_with_len 0 n)) all);
      spelled = trace_spells c.loop-row.text.items c.loop-row.samples.items inv.rows (omega (arith, inv.count, all));
      short = omega (arith, inv.size, all);
    }

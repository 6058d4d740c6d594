use Rattle.std.proofs.Common.{◌≡◌, ◌≤◌, ◌+◌, ◌*◌, ℕ, length, map}
use Rattle.std.specs.List.{range_with_len}
use Rattle.trace_io.specs.{Traces.SpellsSample, declared.sample.Sample.Sample}
use Rattle.workload.specs.{Draws.state_after, Workloads.drawn_values}
use Rattle.workload.proofs.{RowLemmas.Writes, TraceLemmas.pair}
use Rattle.workload.proofs.traces.drawn_trace.Given as goal

abbrev pub invariant-loop-row : goal.invariant-loop-row
invariant-loop-row l = record {
  state : (number : ℕ) → l.fn.draws.state ≡ state_after number 1
      → l.draws.state ≡ state_after number (1 + 2 * l._row);
  values : (number : ℕ) → l.fn.draws.state ≡ state_after number 1
      → map (λ (s : Sample). s.values) l.samples.items ≡ map (drawn_values number) (range_with_len 0 l._row);
  rows : Writes (SpellsSample pair) l.text.items l.samples.items;
  count : length l.samples.items ≡ l._row;
  size : length l.text.items ≤ 200 * l._row;
}

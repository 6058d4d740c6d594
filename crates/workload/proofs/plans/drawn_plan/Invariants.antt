use Rattle.std.proofs.Common.{◌≡◌, ◌≤◌, ◌+◌, ◌*◌, ℕ, length, map}
use Rattle.std.specs.List.{range_with_len}
use Rattle.interrupt_plan.specs.Plans.{SpellsRequest}
use Rattle.workload.specs.{Draws.state_after, Workloads.drawn_request}
use Rattle.workload.proofs.RowLemmas.{Writes}
use Rattle.workload.proofs.plans.drawn_plan.Given as goal

abbrev pub invariant-loop-k : goal.invariant-loop-k
invariant-loop-k l = record {
  state : (number : ℕ) → l.fn.draws.state ≡ state_after number 2001
      → l.draws.state ≡ state_after number (2001 + 3 * l.k);
  requests : (number : ℕ) → l.fn.draws.state ≡ state_after number 2001
      → l.requests.items ≡ map (drawn_request number) (range_with_len 0 l.k);
  rows : Writes SpellsRequest l.text.items l.requests.items;
  size : length l.text.items ≤ 200 * l.k;
}

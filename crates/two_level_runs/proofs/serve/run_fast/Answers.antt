use Rattle.two_level_runs.proofs.Words.{ap, counted_at, entered, fast_most, fast_run, FastSeen}
use Rattle.two_level_runs.proofs.Words.{inner_notes, SampleSummary, Some, suspended, wav}
use Rattle.two_level_runs.proofs.FastRows.{same_run, seen_by_counts}
use Rattle.two_level_runs.proofs.serve.run_fast.Goals as goal

pub returns-clause-state : goal.returns-clause-state
returns-clause-state g c =
    let a = c.args in
    let f = a.two.now.fast in
    let n = c.enter-frame.new.m in
    ap (λ (k : SampleSummary (Unit {0})). k.state)
    (same_run f.outputs n.flags a.m.now.flags c.fast_step_bound.result (fast_most f.step_bound) a.moments.now n.state
    (entered a.bytes.now (suspended wav a.m.now.state))
    (counted_at inner_notes c.run_inside-counts.result c.run_inside-counts.new.m.state)
    c.run_inside-counts.ensures.counted (ap (λ m. m.flags) c.enter-frame.ensures.machine)
    c.fast_step_bound.ensures c.enter-frame.ensures.state)

pub returns-clause-row : goal.returns-clause-row
returns-clause-row g c =
    let a = c.args in
    let f = a.two.now.fast in
    let n = c.enter-frame.new.m in
    let v = entered a.bytes.now (suspended wav a.m.now.state) in
    ap (λ (x : FastSeen). Some x)
    (seen_by_counts a.number f.outputs c.run_inside-counts.result c.run_inside-counts.new.m.state
    (fast_run a.m.now.flags f.outputs (fast_most f.step_bound) a.moments.now v)
    c.answers.result.items
    (same_run f.outputs n.flags a.m.now.flags c.fast_step_bound.result (fast_most f.step_bound) a.moments.now n.state v
    (counted_at inner_notes c.run_inside-counts.result c.run_inside-counts.new.m.state)
    c.run_inside-counts.ensures.counted (ap (λ m. m.flags) c.enter-frame.ensures.machine)
    c.fast_step_bound.ensures c.enter-frame.ensures.state) c.answers.ensures)

use Rattle.two_level_runs.proofs.Words.{◌∙◌, ap, ap₂, fast_most, List, served_by, Some, suspended, sym, told_by, wav}
use Rattle.two_level_runs.proofs.Words.{ℕ}
use Rattle.std.proofs.{Common.Option}
use Rattle.two_level_runs.proofs.serve.serve.Goals as goal

pub returns-in-Some-clause-state : goal.returns-in-Some-clause-state
returns-in-Some-clause-state g c =
    let a = c.args in
    let f = a.two.now.fast in
    let v = suspended wav a.m.now.state in
    c.run_fast-frame.ensures.state
    ∙ ap₂ (λ (inner bytes : List ℕ). served_by a.m.now.flags f.outputs (fast_most f.step_bound) inner (Some bytes) v)
    c.as_slice.ensures.value c.as_slice-bytes.ensures.value
    ∙ ap (λ (o : Option (List ℕ)). served_by a.m.now.flags f.outputs (fast_most f.step_bound) a.level.now.inner.items o
    v) (sym c.in-Some.ensures)

pub returns-in-Some-clause-told : goal.returns-in-Some-clause-told
returns-in-Some-clause-told g c =
    let a = c.args in
    let f = a.two.now.fast in
    let v = suspended wav a.m.now.state in
    c.run_fast-frame.ensures.row
    ∙ ap₂ (λ (inner bytes : List ℕ). told_by a.m.now.flags f.outputs (fast_most f.step_bound) a.level.now.fast inner
    (Some bytes) v) c.as_slice.ensures.value c.as_slice-bytes.ensures.value
    ∙ ap (λ (o : Option (List ℕ)). told_by a.m.now.flags f.outputs (fast_most f.step_bound) a.level.now.fast
    a.level.now.inner.items o v) (sym c.in-Some.ensures)

use Rattle.std.proofs.Common.{◌≡◌, ◌∙◌, ℕ, List, map, ap, ap₂, sym, subst}
use Rattle.cpu12_parts.specs.State.{State}
use Rattle.run_law.specs.Forms.{RowSeen, Rows}
use Rattle.interrupt_plan.specs.declared.Request.{Request}
use Rattle.alone_runs.specs.Forms.{with_writes}
use Rattle.alone_runs.specs.Rows.{requests_of, first_state, firmware_rows, writes_harness}
use Rattle.trace_io.specs.Traces.{input_bytes}
use Rattle.run_forms.specs.{Positions.positions, Rooms.Fits}
use Rattle.run_forms.specs.RunRests.{RunRest, from_here, rest_here, shown_run, IsUnderWay}
use Rattle.alone_runs.proofs.Requests.{plans_are_in_order, slice_in_order}
use Rattle.alone_runs.proofs.session.Session.new.Goals as goal

pub begun-requires : goal.begun-requires
begun-requires g c = record {
  served = λ k q within. tt;
  order = slice_in_order plans_are_in_order _ _ c.requires.plan c.as_slice.ensures;
}

pub invariant_of-result : goal.invariant_of-result
invariant_of-result g c =
    let a = c.args in
    subst (λ (l : List Request). IsUnderWay Fits (writes_harness a.firmware.now a.samples.now) l
    c.in_ok-machine.run_state) c.as_slice.ensures c.in_ok-machine.ensures.under_way

pub returns-clause-rest : goal.returns-clause-rest
returns-clause-rest g c =
    let a = c.args in
    let f = a.firmware.now in
    let h = writes_harness f a.samples.now in
    let inputs : List (List ℕ) = map input_bytes a.samples.now in
    let first : State = first_state f a.flags in
    let r = c.in_ok-machine in
    let same : c.as_slice.result.now ≡ a.plan.now = c.as_slice.ensures in
    let rows : List Request → Rows (List ℕ) Request (Unit {0}) = λ l. firmware_rows f inputs l a.flags in
    ap₂ (λ (k : ℕ) (l : List Request). from_here (rest_here k h l r.run_state r.machine.state))
    (ap (λ m. m.flags) r.ensures.machine) (sym same)
    ∙ r.ensures.first
    ∙ ap (λ (l : List Request). shown_run h.shows first (rows l)) same
    ∙ ap (λ (shown : List (RowSeen (List ℕ))). with_rows first (rows a.plan.now) shown)
    (let are = c.rows_are_shown.ensures (with_writes a.flags f) f.step_bound (λ k. requests_of k a.plan.now) 1 inputs
    first in are.rows)
  where
    with_rows : State → Rows (List ℕ) Request (Unit {0}) → List (RowSeen (List ℕ)) → RunRest (RowSeen (List ℕ))
    with_rows first all rows = record { left = positions first all; rows = rows; state = all.state }

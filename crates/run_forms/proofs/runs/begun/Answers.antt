use Rattle.std.proofs.Common.{◌≡◌, ◌∙◌, ℕ, [], ap, ap₂, sym, subst}
use Rattle.cpu12_parts.specs.State.{State}
use Rattle.cpu12_emul.specs.Step.{Whole}
use Rattle.run_forms.specs.Rows.{arrival, arrived_at, harness_rows}
use Rattle.run_forms.specs.RunRests.{rest_before, at_position, from_here, rest_here, shown_run}
use Rattle.run_forms.proofs.runs.begun.Goals as goal

pub begin-requires-clause-before : goal.begin-requires-clause-before
begin-requires-clause-before g c =
    let h = g.F.SampleForm.harness c.args.form.now in
    let m = c.arrive.new.m in
    let before = c.before_samples-run_state in
    let plan = c.args.plan.now in
    subst (λ (k : ℕ). rest_here m.flags h plan before.result m.state
    ≡ at_position (record { sample = 0; moment = 0; state = m.state })
    (rest_before m.flags h k 1 plan h.samples [] m.state)) (sym before.ensures.most)
    (before.ensures.rest m.flags m.state)

pub returns-clause-first : goal.returns-clause-first
returns-clause-first g c =
    let a = c.args in
    let h = g.F.SampleForm.harness a.form.now in
    let start = a.start.now in
    let m = c.arrive.new.m in
    let n = c.begin.new in
    let plan = a.plan.now in
    let most : c.before_samples-run_state.result.most ≡ start.most = c.before_samples-run_state.ensures.most in
    let flags : m.flags ≡ a.flags =
    ap (λ (w : Whole). w.flags) c.arrive.ensures.machine ∙ ap (λ (w : Whole). w.flags) c.in_ok-machine.ensures in
    let state : m.state ≡ arrived_at a.flags start.wait start.most start.image.now.bytes =
    c.arrive.ensures.state
    ∙ ap (λ (w : Whole). arrival w.flags start.wait start.most w.state) c.in_ok-machine.ensures in
    ap (λ (k : ℕ). from_here (rest_here k h plan n.p n.m.state)) (sym flags)
    ∙ c.begin.ensures.first
    ∙ ap₂ (λ (k j : ℕ). shown_run h.shows m.state (harness_rows k h j plan m.state)) flags most
    ∙ ap (λ (s : State). shown_run h.shows s (harness_rows a.flags h start.most plan s)) state

use Rattle.std.proofs.Common.{ap, ◌∙◌}
use Rattle.run_forms.specs.RunRests.{rest_here}
use Rattle.run_forms.proofs.AtOnce.{PassesOn, passes_on, stays_here, under_way_on}
use Rattle.run_forms.proofs.{run_state.drive.Given.Over, run_state.drive.Goals.After-pass_parts}
use Rattle.run_forms.proofs.run_state.drive.Goals as goal

-- what is to come, after a position and the steps that were done at once from there
further : (g : Over) (c : After-pass_parts g)
    → PassesOn (rest_here c.args.m.now.flags (g.F.SampleForm.harness c.args.form.now) c.args.plan.now c.loop-m.p
    c.loop-m.m.state)
    (rest_here c.args.m.now.flags (g.F.SampleForm.harness c.args.form.now) c.args.plan.now
    (record (c.advance.new.p) { sample = c.pass_parts.new.st }) c.pass_parts.new.m.state)
further g c =
    let l = c.loop-m in
    let n = c.advance.new in
    let q = c.pass_parts.new in
    let rest = c.pass_parts.ensures.rest in
    passes_on c.args.m.now.flags l.m.flags n.m.flags (g.F.SampleForm.harness c.args.form.now)
    c.args.plan.now l.p n.p q.st
    l.m.state n.m.state q.m.state _ rest.0
    l.invariant.flags (ap (λ m. m.flags) c.advance.ensures.machine ∙ l.invariant.flags)
    (c.advance.ensures.goes c.loop-m-test.true) rest.1

pub loop-m-preserved : goal.loop-m-preserved
loop-m-preserved g c =
    let l = c.loop-m in
    let on = further g c in
    record {
      under_way = under_way_on c.advance.ensures.under_way c.pass_parts.ensures.steady;
      rows = on.rows ∙ l.invariant.rows;
      state = on.state ∙ l.invariant.state;
      flags = ap (λ m. m.flags) c.pass_parts.ensures.machine ∙ ap (λ m. m.flags) c.advance.ensures.machine
          ∙ l.invariant.flags;
    }

pub loop-m-smaller : goal.loop-m-smaller
loop-m-smaller g c = (further g c).less

pub returns : goal.returns
returns g c =
    let l = c.loop-m in
    let n = c.advance.new in
    let same = c.advance.ensures.same c.loop-m-test.false in
    let stays =
    stays_here c.args.m.now.flags (g.F.SampleForm.harness c.args.form.now) c.args.plan.now l.p n.p l.m n.m _ same.0
    same.1 l.invariant.flags (c.advance.ensures.ends c.loop-m-test.false) in
    record {
      rows = stays.rows_are ∙ l.invariant.rows;
      state = stays.state_is ∙ l.invariant.state;
      under_way = c.advance.ensures.under_way;
    }

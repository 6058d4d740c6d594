use Rattle.std.proofs.Common.{◌≡◌, ◌-◌, ℕ, length, ap, subst, sym, arith}
use Rattle.run_forms.specs.Slices.{HaveRoom}
use Rattle.run_forms.proofs.RunRests.{steady_before}
use Rattle.run_forms.proofs.run_state.before_samples.Goals as goal

pub returns-clause-under_way : goal.returns-clause-under_way
returns-clause-under_way g c =
    let a = c.args in
    let h = g.F.SampleForm.harness a.form.now in
    let samples = h.samples in
    let none = ap length c.requires.none in
    let len = a.rows.ok in
    let order = c.requires.order in
    let all : length samples - 0 ≡ length samples = omega arith in
    record {
      few = order.few;
      number = omega arith;
      first = omega arith;
      behind = omega arith;
      follow = order.follow;
      rooms = subst (λ (n : ℕ). HaveRoom g.F.SampleForm.fits h.notes h.parts.place 1 n a.plan.now a.rooms.items)
          (sym all) c.requires.rooms;
      rows = omega (arith, len.0, none);
      room = c.requires.room;
      sample = steady_before g.F.SampleForm.fits h.notes a.none c.fresh_sample-sample.result
          c.fresh_sample-sample.ensures.counts
          c.requires.empty;
    }

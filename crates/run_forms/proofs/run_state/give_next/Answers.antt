use Rattle.std.proofs.Common.{◌∙◌, ◌+◌, ◌-◌, ◌<◌, ◌^◌, length, refl, ap, sym, subst}
use Rattle.run_forms.specs.RunRests.{requests_at}
use Rattle.run_forms.proofs.NextSamples.{HasNext, given_next, next_arrives, under_way_next}
use Rattle.run_forms.proofs.{run_state.give_next.Given.Over, run_state.give_next.Goals.After-count_of}
use Rattle.run_forms.proofs.run_state.give_next.Goals as goal

-- the sample that is given, where it begins
next_there : (g : Over) (c : After-count_of g)
    → HasNext g.F.SampleForm.fits (g.F.SampleForm.harness c.args.form.now) c.args.plan.now c.args.p.now
    c.count_of.result c.in-Some.room
    c.pop_front.new.self.items c.replace-sample.new.dest
next_there g c = record {
  under_way = c.requires.under_way;
  more = c.requires.left;
  items = c.in-Some.ensures.items;
  count = c.count_of.ensures;
  counts = ap (λ s. s.counts) c.replace-sample.ensures.after ∙ c.fresh_sample.ensures.counts;
  left = ap (λ s. s.left) c.replace-sample.ensures.after ∙ c.fresh_sample.ensures.left;
}

pub come-requires-clause-arrives : goal.come-requires-clause-arrives
come-requires-clause-arrives g c =
    next_arrives (next_there g (goal.at.come-requires-clause-arrives g c).After-count_of)
    (ap (λ s. s.over) c.replace-sample.ensures.after ∙ c.fresh_sample.ensures.on)
    (subst (λ s. s.counts.moment + s.left < 2 ^ 32) (sym c.replace-sample.ensures.after) c.fresh_sample.ensures.sum)

pub returns-clause-rest : goal.returns-clause-rest
returns-clause-rest g c =
    let past = c.end_sample in
    given_next (next_there g (goal.at.returns-clause-rest g c).After-count_of) c.args.m.now.flags
    c.give.new.m.flags past.new.m.flags
    (record (c.args.p.now) { sample = c.come.new.st; rooms = c.pop_front.new.self; rows = past.new.rows })
    c.replace-sample.result c.args.m.now.state past.new.m.state c.give.new.m.state c.come.new.m.state
    c.replace-sample.ensures.value (ap (λ m. m.flags) c.give.ensures.machine) (ap (λ m. m.flags) past.ensures.machine)
    past.ensures.rows past.ensures.state
    c.give.ensures.state c.come.ensures.rest c.come.ensures.moment

pub returns-clause-under_way : goal.returns-clause-under_way
returns-clause-under_way g c =
    let past = c.end_sample in
    under_way_next (next_there g (goal.at.returns-clause-under_way g c).After-count_of)
    (record (c.args.p.now) { sample = c.come.new.st; rooms = c.pop_front.new.self; rows = past.new.rows })
    refl past.ensures.len past.ensures.room c.come.ensures.steady

pub end_sample-requires-clause-few : goal.end_sample-requires-clause-few
end_sample-requires-clause-few g c =
    let p = c.args.p.now in
    let left = length (requests_at c.args.plan.now p) - p.sample.counts.next in (
      left,
      subst (λ st. g.F.SampleForm.fits st.counts.notes left) (sym c.replace-sample.ensures.value)
          c.requires.under_way.sample.room,
    )

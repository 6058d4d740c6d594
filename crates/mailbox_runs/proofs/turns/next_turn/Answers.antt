use Rattle.mailbox_runs.proofs.Words.{◌∙◌, answer_seen, ap, input_bytes, map, sym}
use Rattle.mailbox_runs.proofs.NextTurns.{Begins, over_here, stuck_here, turn_here}
use Rattle.mailbox_runs.proofs.{turns.next_turn.Given.Over, turns.next_turn.Goals.After-look-seen}
use Rattle.mailbox_runs.proofs.turns.next_turn.Goals as goal

-- the turn as it begins
begins_there : (g : Over) (c : After-look-seen g)
    → Begins c.args.m.now.flags c.args.firmware.now (map input_bytes c.args.samples.now) c.args.posts.now
    c.args.waits.now c.look-seen.result c.args.st.now.counts c.look-seen.new.t c.args.m.now.state
    c.look-seen.new.m.state
begins_there g c = record {
  takes_are = c.look-seen.ensures.takes;
  waits = c.look-seen.ensures.waits;
  begins = c.look-seen.ensures.begins;
  fresh = c.look-seen.ensures.fresh;
}

pub returns-then-is_over-clause-ends : goal.returns-then-is_over-clause-ends
returns-then-is_over-clause-ends g c e n =
    over_here (begins_there g (goal.at.returns-then-is_over-clause-ends g c).After-look-seen) c.args.last n
    (map answer_seen c.args.answers.now.items) (sym c.is_over.ensures ∙ c.if-is_over.true)

pub returns-then-not-turn-clause-ends : goal.returns-then-not-turn-clause-ends
returns-then-not-turn-clause-ends g c e n =
    let look = c.look-seen in
    let turn = c.turn in
    stuck_here (begins_there g (goal.at.returns-then-not-turn-clause-ends g c).After-look-seen) c.args.last n
    (map answer_seen c.args.answers.now.items) look.new.m.flags turn.new.st.counts turn.new.m.state
    (sym c.is_over.ensures ∙ c.if-is_over.false)
    (ap (λ m. m.flags) look.ensures.machine)
    (sym turn.ensures.arrived ∙ c.if-not-turn.true) turn.ensures.counted turn.ensures.left

pub returns-clause-goes : goal.returns-clause-goes
returns-clause-goes g c e n =
    let look = c.look-seen in
    let turn = c.turn in
    let end = c.end_turn in
    turn_here (begins_there g (goal.at.returns-clause-goes g c).After-look-seen) c.args.last n
    (map answer_seen c.args.answers.now.items) look.new.m.flags turn.new.st.counts turn.new.m.state
    (map answer_seen end.new.answers.items) end.result (sym c.is_over.ensures ∙ c.if-is_over.false)
    (ap (λ m. m.flags) look.ensures.machine)
    (sym turn.ensures.arrived ∙ c.if-not-turn.false) turn.ensures.counted turn.ensures.left
    (turn.ensures.next, (let steady = turn.ensures.steady in steady.next)) end.ensures.answers
    end.ensures.waits

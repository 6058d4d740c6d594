use Rattle.mailbox_runs.proofs.Words.{◌-◌, ◌∙◌, ◌≡◌, answer_seen, ap, ap₂, arith, drop, input_bytes, map, suc, sym}
use Rattle.mailbox_runs.proofs.Words.{turns_from, with_rest, ℕ}
use Rattle.mailbox_runs.proofs.NextTurns.{none_left}
use Rattle.mailbox_runs.proofs.turns.run_turns.Goals as goal

pub returns-then-not-next_turn : goal.returns-then-not-next_turn
returns-then-not-next_turn g c =
    let a = c.args in
    let l = c.loop-left in
    let samples = map input_bytes a.samples.now in
    let some = c.loop-left-test.true in
    let more : suc (l.left - 1) ≡ l.left = omega (arith, some) in
    sym (c.next_turn.ensures.ends c.if-not-next_turn.true (l.left - 1))
    ∙ ap₂ (λ (k n : ℕ). with_rest (map answer_seen l.answers.items) l.st.counts
    (turns_from k a.firmware.now samples a.last n l.st.counts.moment l.waits
    (drop l.st.counts.next a.posts.now) l.m.state))
    (ap (λ m. m.flags) l.invariant.machine) more
    ∙ l.invariant.rest

pub returns : goal.returns
returns g c =
    let a = c.args in
    let l = c.loop-left in
    let none = c.loop-left-test.false in
    sym (none_left a.m.now.flags a.firmware.now (map input_bytes a.samples.now) a.last l.left l.st.counts.moment l.waits
    (drop l.st.counts.next a.posts.now) l.m.state l.st.counts (map answer_seen l.answers.items)
    (omega (arith, none)))
    ∙ l.invariant.rest

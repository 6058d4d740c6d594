use Rattle.two_level_runs.proofs.Words.{◌∙◌, ◌≡◌, arith, length}
use Rattle.two_level_runs.proofs.Writing.{entered_with}
use Rattle.two_level_runs.proofs.fast.enter.Goals as goal

pub returns-clause-state : goal.returns-clause-state
returns-clause-state g c =
    let l = c.loop-k in
    let end = l.auto.k-end in
    let past = c.loop-k-test.false in
    let all : l.k ≡ length c.args.bytes.now = omega arith in
    c.enter.ensures.state ∙ entered_with l.writes c.args.bytes.now l.k l.next c.args.m.now.state all l.invariant.pairs

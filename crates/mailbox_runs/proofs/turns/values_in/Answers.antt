use Rattle.mailbox_runs.proofs.Words.{◌∙◌, arith}
use Rattle.mailbox_runs.proofs.turns.values_in.Goals as goal

pub returns : goal.returns
returns g c =
    let few = c.requires in
    c.answers.ensures
    ∙ c.answers_are_values.ensures c.args.firmware.now c.args.m.now.state (omega (arith, few.0, few.1))

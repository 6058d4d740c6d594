use Rattle.alone_runs.proofs.laws.runs_follow_beside.Goals as goal

pub returns : goal.returns
returns c open_to flags f opens low =
    c.runs_follow.ensures (record { flags = flags; firmware = f; low = low; open_to = open_to; opens = opens })

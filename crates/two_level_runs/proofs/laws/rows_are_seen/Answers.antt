use Rattle.two_level_runs.proofs.Words.{first_two, two_level_form, levels_of}
use Rattle.two_level_runs.proofs.FastRuns.{rows_seen}
use Rattle.two_level_runs.proofs.laws.rows_are_seen.Goals as goal

pub returns : goal.returns
returns c two slow fast levels flags =
    rows_seen (two_level_form flags two fast) two.firmware.step_bound (λ k. levels_of k levels) 1 slow
    (first_two two flags)

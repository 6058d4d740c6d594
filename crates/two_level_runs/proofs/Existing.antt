-- The fast code has a run from wherever it is entered.
use Rattle.two_level_runs.proofs.Words.{FastRunsExist, FastStepsReturn, joint_memory}
use Rattle.two_level_code.specs.{Running.FastAnswersEntered}

pub fast_runs_exist : FastAnswersEntered → FastStepsReturn → FastRunsExist
fast_runs_exist answers steps slow fast two flags bytes before s vs ls vf lf is fits input entered =
    let u = answers slow fast two vs ls vf lf is flags bytes before s fits input entered in
    steps fast (joint_memory two) flags bytes before s u.0 fits entered u.1

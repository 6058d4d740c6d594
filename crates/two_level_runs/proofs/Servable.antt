-- Each sample of the fast of two blocks has a run from where its code can be entered.
use Rattle.two_level_runs.proofs.Words.{◌≡◌, ◌≤◌, arith, Byte, entered, fast_most, FastRunsExist}
use Rattle.two_level_runs.proofs.Words.{joint_memory, IsFastRun, OuterEnters, OuterIsServable, step_bound, subst, suc}
use Rattle.two_level_runs.proofs.Words.{sym}

pub outer_is_servable : OuterEnters → FastRunsExist → OuterIsServable
outer_is_servable enters exist slow fast two flags bytes before v vs ls vf lf is hf input can =
    let image = joint_memory two in
    let there = enters fast image bytes before v vf.few_inputs (omega (arith, vf.few_outputs)) input can in
    let ran = exist slow fast two flags bytes before (entered bytes v) vs ls vf lf is hf input there in
    let run : IsFastRun fast image flags bytes before (entered bytes v) ran.0 = ran.1 in
    let code = is.fast_is in
    let bound : step_bound Byte fast ≡ two.fast.step_bound = sym code.steps in (
      input,
      record {
        behind = ran.0;
        run = run;
        within = subst (λ n. suc run.further ≤ fast_most n) bound run.steps;
      },
    )

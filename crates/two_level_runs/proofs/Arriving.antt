-- The state in which the slow firmware waits for its first sample has the fast code beside it.
use Rattle.two_level_runs.proofs.Words.{[], ◌<◌, ◌==◌, ◌^◌, ◌≡◌, ◌≤◌, AreBytes, arith, Block, Bool, false, FastStands}
use Rattle.two_level_runs.proofs.Words.{first_two, FirstAlike, FitsState, if◌then◌else◌, joint_memory}
use Rattle.two_level_runs.proofs.Words.{is_open_to_fast, length, List, Next, next_of, Ok, refl, StandsBeside, State}
use Rattle.two_level_runs.proofs.Words.{StepFits, suc, true, Two, zero, ℕ}
use Rattle.two_level_runs.proofs.Words.{slow_alone}
use Rattle.std.proofs.{Common.Err}
use Rattle.cpu12_emul.specs.{Step.reset_with}
use Rattle.std.specs.Prelude.{Result}
use Rattle.run_forms.specs.Rows.{then_arrival, arrival}
use Rattle.two_level_runs.proofs.Standing.{code_stays, outputs_stay}

-- steps on the way leave what fits
arrival_fits : StepFits → (flags loop n : ℕ) (s : State) → flags < 2 ^ 8 → FitsState s
    → FitsState (arrival flags loop n s)
unfolding arrival
arrival_fits law flags loop zero s hf fits = fits
arrival_fits law flags loop (suc n) s hf fits =
    by (s.regs.pc == loop) (λ t h. arrival_fits law flags loop n t hf h)
  where
    step : ((t : State) → FitsState t → FitsState (arrival flags loop n t)) → (o : Result Next ℕ) → next_of flags s ≡ o
        → FitsState (then_arrival s (arrival flags loop n) o)
    step rest (Ok next) e = rest next.state (law flags s next hf fits e)
    step rest (Err byte) e = fits

    by : (t : Bool) → ((t : State) → FitsState t → FitsState (arrival flags loop n t))
        → FitsState (if t then s else then_arrival s (arrival flags loop n) (next_of flags s))
    by true rest = fits
    by false rest = step rest (next_of flags s) refl

reset_fits : (mem : List ℕ) → AreBytes mem → FitsState (reset_with mem)
reset_fits mem bytes = record {
  regs = record {
    a = omega arith;
    b = omega arith;
    x = omega arith;
    y = omega arith;
    sp = omega arith;
    pc = (let high = bytes 65534 in let low = bytes 65535 in omega (arith, high, low));
    ccr = omega arith;
  };
  temps = tt;
  mem = bytes;
}

pub first_stands : StepFits → (slow fast : Block) (two : Two) (flags : ℕ) (samples : List (List ℕ)) → flags < 2 ^ 8
    → length fast.outputs ≤ 8 → StandsBeside slow fast two
    → FirstAlike is_open_to_fast (slow_alone slow two) flags (joint_memory two) (first_two two flags)
    → FastStands fast two samples [] (first_two two flags)
first_stands law slow fast two flags samples hf few stand alike =
    let image = joint_memory two in
    let fits = arrival_fits law flags two.firmware.memory_map.wait two.firmware.step_bound (reset_with image) hf
    (reset_fits image stand.bytes) in
    record {
      bytes = fits.mem;
      code = code_stays image image (first_two two flags).mem alike.open_bytes
          (record { rom = λ at lo hi. refl; enters = stand.enters });
      outputs = outputs_stay fast (λ o. 0) image (first_two two flags).mem few alike.open_bytes stand.outputs;
      answers = tt;
      good = λ k x lt. absurd (omega arith);
    }

-- A state from which the fast code is entered.
use Rattle.two_level_runs.proofs.Words.{arith, Block, CanEnter, Free, joint_memory, inl, List, OuterEnters, refl}
use Rattle.two_level_runs.proofs.Words.{StandsBeside, State, Two, TwoStandBeside, ℕ}
use Rattle.cpu12_emul.specs.{Image.HoldsImage}
use Rattle.two_level_runs.specs.{Entered.FastIsEntered}

-- the image's memory, with SP at the stack's end
beginning : List ℕ → State
beginning mem = record {
  regs = record { a = 0; b = 0; x = 0; y = 0; sp = 0x2000; pc = 0; ccr = record { 0 = 0 } };
  temps = Free;
  mem = mem;
}

can_begin : HoldsImage → (slow fast : Block) (two : Two) → StandsBeside slow fast two
    → CanEnter fast (joint_memory two) (λ o. 0) (beginning (joint_memory two))
unfolding beginning
can_begin holds slow fast two stand = record {
  off = inl refl;
  size = (holds two.firmware.image.bytes).0;
  bytes = stand.bytes;
  fits = record {
    a = omega arith;
    b = omega arith;
    x = omega arith;
    y = omega arith;
    sp = omega arith;
    pc = omega arith;
    ccr = omega arith;
  };
  low = omega arith;
  high = omega arith;
  code = record { rom = λ at lo hi. refl; enters = stand.enters };
  outputs = stand.outputs;
}

pub fast_is_entered : HoldsImage → TwoStandBeside → OuterEnters → FastIsEntered
unfolding beginning
fast_is_entered holds stands enters slow fast two bytes vs ls vf lf is input =
    let stand = (stands slow fast two vs ls vf lf is).0 in
    let image = joint_memory two in
    let there =
    enters fast image bytes (λ o. 0) (beginning image) vf.few_inputs (omega (arith, vf.few_outputs)) input
    (can_begin holds slow fast two stand) in
    (beginning image, (refl, there))

-- A firmware is its parts.
use Rattle.firmware_code.proofs.Words.{ℕ, ◌≡◌, Block, Firmware, length, MemoryMap, Width}
unfoldable use Rattle.eval_code.specs.Bounds.{steps_by}
use Rattle.cpu12_asm.specs.declared.image.Image.{Image}

pub of_parts : (f g : Firmware) → f.image ≡ g.image → f.memory_map ≡ g.memory_map → f.inputs ≡ g.inputs
    → f.outputs ≡ g.outputs → f.width ≡ g.width → f.instr_bound ≡ g.instr_bound → f.step_bound ≡ g.step_bound → f ≡ g
of_parts f g image memory_map inputs outputs width instructions steps = λ i. record {
  image = image i;
  memory_map = memory_map i;
  inputs = inputs i;
  outputs = outputs i;
  width = width i;
  instr_bound = instructions i;
  step_bound = steps i;
}

-- a block's, by what its form says
abbrev pub firmware_with : MemoryMap → Width → ℕ → Block → Image → Firmware
firmware_with memory_map width bound b image = record {
  image = image;
  memory_map = memory_map;
  inputs = length b.inputs;
  outputs = length b.outputs;
  width = width;
  instr_bound = bound;
  step_bound = steps_by b bound;
}

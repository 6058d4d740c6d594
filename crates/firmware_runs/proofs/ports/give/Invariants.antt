use Rattle.std.proofs.Common.{◌≡◌, drop}
use Rattle.cpu12_isa.specs.{Act.write_all, Memory.placed}
use Rattle.cpu12_emul.specs.Step.{SameMachine}
use Rattle.firmware_runs.proofs.ports.give.Given as goal

-- the bytes that are left lead to the same memory as all
abbrev pub invariant-loop-byte : goal.invariant-loop-byte
invariant-loop-byte g l = record {
  mem : write_all (placed l.at (drop l.byte-index l.bytes)) l.m.state.mem ≡ write_all
      (placed l.memory_map.samples l.bytes) l.fn.m.state.mem;
  regs : l.m.state.regs ≡ l.fn.m.state.regs;
  temps : l.m.state.temps ≡ l.fn.m.state.temps;
  machine : SameMachine l.fn.m l.m;
}

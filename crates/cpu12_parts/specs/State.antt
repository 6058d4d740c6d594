-- States of the machine, and what a part of an instruction leaves.
-- Reached by the promise.
use Rattle.std.specs.Prelude.{ℕ, List}
use Rattle.cpu12_isa.specs.{declared.instr.Regs.Regs, Act.write_all}
use Rattle.cpu12_parts.specs.declared.{temps.Temps.Temps, temps.PartEnd.PartEnd}

-- registers, WAV's sums, and the 65536 bytes of memory
pub record State : Type 0 where
  pub regs : Regs
  pub temps : Temps
  pub mem : List ℕ

-- what a part leaves: registers, sums, what is written in order, and whether the instruction is over
pub record Outcome : Type 0 where
  pub regs : Regs
  pub temps : Temps
  pub writes : List (ℕ × ℕ)
  pub end : PartEnd

-- the state after it
abbrev pub state_after : Outcome → List ℕ → State
state_after o mem = record { regs = o.regs; temps = o.temps; mem = write_all o.writes mem }

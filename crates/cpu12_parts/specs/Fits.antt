-- Parts leave registers, sums and writes of the sizes that they have.
-- Beside the promise.
use Rattle.std.specs.Prelude.{ℕ, ◌^◌, ◌<◌}
use Rattle.cpu12_isa.specs.Fits.{FitsRegs, FitsWrites, AreBytes}
use Rattle.cpu12_parts.specs.{declared.temps.Temps.Temps, State.State, State.Outcome, Parts.Kind, Parts.part_of}
use Rattle.cpu12_parts.specs.declared.temps.Temps.TheVariants.{Free, Running, OnStack}

abbrev pub FitsTemps : Temps → Type 0
FitsTemps Free = Unit {0}
FitsTemps OnStack = Unit {0}
FitsTemps (Running p w) = (p < 2 ^ 32) × (w < 2 ^ 16)

pub record FitsState (s : State) : Type 0 where
  pub regs : FitsRegs s.regs
  pub temps : FitsTemps s.temps
  pub mem : AreBytes s.mem

pub record FitsOutcome (o : Outcome) : Type 0 where
  pub regs : FitsRegs o.regs
  pub temps : FitsTemps o.temps
  pub writes : FitsWrites o.writes

-- A part leaves what fits.
abbrev pub PartFits : Kind → Type 0
PartFits k = (flags : ℕ) (s : State) → flags < 2 ^ 8 → FitsState s → FitsOutcome (part_of k flags s)

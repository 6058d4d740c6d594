-- What a plain instruction does: its act, and its effect on a memory.
-- Beside the promise.
use Rattle.std.specs.Prelude.{ℕ, Bool, true, false, List, Option, Some, None, unwrap_or}
use Rattle.cpu12_isa.specs.declared.{instr.Regs.Regs, instr.Instr.Instr}
use Rattle.cpu12_isa.specs.declared.instr.Instr.TheVariants.{Rev, Revw, Wav, Wavr}
use Rattle.cpu12_isa.specs.{Act.Act, Act.Give, Act.outcome}
pub use Rattle.cpu12_isa.specs.Operations.{Effect}
use Rattle.cpu12_isa.specs.Operations.{Operation, AtOnce, quiet, operation_of}

-- whether an instruction is done at once, and not in parts
abbrev pub is_plain : Instr → Bool
is_plain Rev = false
is_plain Revw = false
is_plain Wav = false
is_plain Wavr = false
is_plain i = true

-- the act of what is done at once; what is done in parts has none
abbrev pub at_once : Operation → Option (Act Effect)
at_once (AtOnce act) = Some act
at_once parts = None

abbrev pub act_of : ℕ → Instr → Regs → Option (Act Effect)
act_of flags i r = at_once (operation_of flags i r)

-- the act of a plain instruction: what speaks of it asks that the instruction is plain
abbrev pub plain_act : ℕ → Instr → Regs → Act Effect
plain_act flags i r = unwrap_or (act_of flags i r) (Give (quiet r))

-- the effect of a plain instruction
abbrev pub effect : ℕ → Instr → Regs → List ℕ → Effect
effect flags i r mem = outcome (plain_act flags i r) mem

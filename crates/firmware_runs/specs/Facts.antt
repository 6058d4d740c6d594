-- What each state of a run without interrupts keeps.
-- Beside the promise.
use Rattle.std.specs.Prelude.{◌≡◌, ℕ, min, Bool, false}
use Rattle.cpu12_isa.specs.{Agreement.AgreeFrom, Agreement.AllShown, Flags.interrupts_masked, Flags.has}
use Rattle.cpu12_isa.specs.Regions.{stack_end, is_free, is_hidden}
use Rattle.cpu12_parts.specs.{declared.temps.Temps.Temps, Laws.addresses, State.State}
use Rattle.cpu12_parts.specs.declared.temps.Temps.TheVariants.{Free, Running, OnStack}
use Rattle.cpu12_emul.specs.{Image.image_memory, Simulation.IsShownStep}
use Rattle.firmware_code.specs.{declared.firmware.Firmware.Firmware, Interruptible.IsStackOfOneCall}

-- the sums are none or running
abbrev pub AreNoneOrRunning : Temps → Type 0
AreNoneOrRunning Free = Unit {0}
AreNoneOrRunning OnStack = ⊥
AreNoneOrRunning (Running p w) = Unit {0}

-- What a step reads is not hidden, and what it uncovers of the stack it writes; what it writes is not open to
-- handlers, nor below the lower of SP before it and SP after it on the stack; I is 0; and the sums are none or
-- running.
pub record Facts (open_to : ℕ → Bool) (flags : ℕ) (s : State) : Type 0 where
  pub shown : IsShownStep open_to flags s
  pub writes : AllShown (is_hidden open_to (min s.regs.sp shown.left.regs.sp)) (addresses shown.left.writes)
  pub unmasked : has s.regs.ccr interrupts_masked ≡ false
  pub sums : AreNoneOrRunning s.temps

-- The facts of a firmware that stands alone, beside handlers to which these bytes are open. The bytes from $2000 on,
-- and so all from $C000 on, are the image's, and 0 where it has none.
pub record FactsBeside (open_to : ℕ → Bool) (flags : ℕ) (f : Firmware) (s : State) : Type 0 where
  pub facts : Facts open_to flags s
  pub image : AgreeFrom stack_end (image_memory f.image.bytes) s.mem
  pub stack : IsStackOfOneCall s.regs.sp

-- those beside handlers to which the free bytes are open
abbrev pub FactsAlone : ℕ → Firmware → State → Type 0
FactsAlone = FactsBeside is_free

-- what a state keeps of them in which it waits for a sample, and from which no step is done
pub record WaitsAlone (f : Firmware) (s : State) : Type 0 where
  pub image : AgreeFrom stack_end (image_memory f.image.bytes) s.mem
  pub stack : IsStackOfOneCall s.regs.sp
  pub unmasked : has s.regs.ccr interrupts_masked ≡ false
  pub sums : s.temps ≡ Free

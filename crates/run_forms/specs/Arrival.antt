-- A plain instruction is one step, and plain instructions lead to LOOP.
-- Beside the promise.
use Rattle.std.specs.Prelude.{◌≡◌, ℕ, ◌≤◌, Ok}
use Rattle.cpu12_isa.specs.declared.instr.Instr.{Instr}
use Rattle.cpu12_parts.specs.declared.temps.Temps.TheVariants.{Free}
use Rattle.cpu12_parts.specs.{State.State, Whole.IsPlainStep, Whole.PlainExecution}
use Rattle.cpu12_emul.specs.{declared.ends.Stepped.TheVariants.Plain, Step.next_of}
use Rattle.run_forms.specs.Rows.{arrival}

-- A plain instruction is one step, where no sums run.
abbrev pub PlainIsOneStep : Type 0
PlainIsOneStep =
    (flags : ℕ) (i : Instr) (s t : State) → s.temps ≡ Free → IsPlainStep flags i s t
    → next_of flags s ≡ Ok (record { state = t; kind = Plain })

-- Plain instructions that lead to LOOP are the arrival, for any bound that is not below their number.
abbrev pub ArrivesPlainly : Type 0
ArrivesPlainly =
    (flags loop n most : ℕ) (s t : State) → s.temps ≡ Free → PlainExecution flags loop n s t → t.regs.pc ≡ loop
    → n ≤ most
    → arrival flags loop most s ≡ t

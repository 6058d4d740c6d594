-- What an interrupt pushes of the registers comes back, and what it hides of the stack.
-- Beside the promise.
use Rattle.std.specs.Prelude.{◌≡◌, ℕ, ◌+◌, ◌-◌, ◌≤◌, Bool, true, List, length}
use Rattle.cpu12_isa.specs.{declared.instr.Regs.Regs, Act.write_all, Agreement.Agree, Agreement.AllShown}
use Rattle.cpu12_isa.specs.{Fits.FitsRegs, Flags.interrupts_masked, Flags.put}
use Rattle.cpu12_isa.specs.{Memory.plus, Memory.from, Memory.placed, Registers.frame_bytes, Registers.pulled}
use Rattle.cpu12_isa.specs.Regions.{stack_start, stack_end, is_hidden, LeavesStack}

-- The nine bytes of the registers, pulled from nine bytes below SP while I is set, give the registers again.
abbrev pub FrameComesBack : Type 0
FrameComesBack = (r : Regs) → FitsRegs r
    → pulled (record r { sp = plus r.sp 65527; ccr = put r.ccr interrupts_masked true }) (frame_bytes r) ≡ r

-- Where SP is higher no less is hidden: memories that agree but for what is hidden below one SP do so for a higher one.
abbrev pub HidesMoreAbove : Type 0
HidesMoreAbove = (open_to : ℕ → Bool) (low high : ℕ) (m n : List ℕ) → low ≤ high → Agree (is_hidden open_to low) m n
    → Agree (is_hidden open_to high) m n

-- The stack's bytes from SP on are not hidden.
abbrev pub ShowsFromSp : Type 0
ShowsFromSp = (open_to : ℕ → Bool) (sp at n : ℕ) → LeavesStack open_to → stack_start ≤ at → at + n ≤ stack_end → sp ≤ at
    → AllShown (is_hidden open_to sp) (from at n)

-- Bytes that are put on the stack right below SP are hidden.
abbrev pub HidesPushed : Type 0
HidesPushed = (open_to : ℕ → Bool) (sp k : ℕ) (bytes m : List ℕ) → sp ≤ stack_end → length bytes ≡ k
    → stack_start + k ≤ sp
    → Agree (is_hidden open_to sp) (write_all (placed (sp - k) bytes) m) m

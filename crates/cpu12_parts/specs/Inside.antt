-- What stands between two parts of an instruction, where an interrupt may come, and what is pushed there.
-- Beside the promise.
use Rattle.std.specs.Prelude.{◌≡◌, ℕ, [], List}
use Rattle.cpu12_isa.specs.declared.instr.Regs.{Regs}
use Rattle.cpu12_isa.specs.{Act.write_all, Flags.interrupts_masked, Flags.has, Memory.plus, Memory.placed}
use Rattle.cpu12_parts.specs.{declared.temps.Temps.Temps, declared.temps.PartEnd.TheVariants.More, State.State}
use Rattle.cpu12_parts.specs.Laws.{IsOff, state_of}
use Rattle.cpu12_parts.specs.Parts.{sum_bytes, Kind, part_of, suspended, wav}
use Rattle.cpu12_parts.specs.declared.temps.Temps.TheVariants.{Free, Running, OnStack}

-- where an instruction goes on, by the sums and PC before a part: REV and REVW at their own address,
abbrev pub own_address : Temps → ℕ → ℕ
own_address t pc = pc

-- and WAV at its second byte, at which PC stands while its sums run
abbrev pub second_byte : Temps → ℕ → ℕ
second_byte Free pc = plus pc 1
second_byte OnStack pc = plus pc 1
second_byte (Running p w) pc = pc

-- A part that is not the last leaves I, and PC where the instruction goes on.
abbrev pub GoesOnAt : (Temps → ℕ → ℕ) → Kind → Type 0
GoesOnAt next k = (flags : ℕ) (s : State) → (part_of k flags s).end ≡ More
    → (has (part_of k flags s).regs.ccr interrupts_masked ≡ has s.regs.ccr interrupts_masked)
    × ((part_of k flags s).regs.pc ≡ next s.temps s.regs.pc)

-- Each part leaves the sums.
abbrev pub LeavesSums : Kind → Type 0
LeavesSums k = (flags : ℕ) (s : State) → (part_of k flags s).temps ≡ s.temps

-- No part writes.
abbrev pub WritesNothing : Kind → Type 0
WritesNothing k = (flags : ℕ) (s : State) → (part_of k flags s).writes ≡ []

-- the state with running sums pushed
abbrev pub pushed_sums : Regs → ℕ → ℕ → List ℕ → State
pushed_sums r p w m =
    let sp = plus r.sp 65530 in
    state_of (record r { sp = sp }) OnStack (write_all (placed sp (sum_bytes p w)) m)

-- Before an interrupt sums that run are pushed, and where none run nothing is.
abbrev pub PushesRunning : Type 0
PushesRunning = (s : State) (p w : ℕ) → s.temps ≡ Running p w → suspended wav s ≡ pushed_sums s.regs p w s.mem

abbrev pub PushesNone : Type 0
PushesNone = (s : State) → IsOff s.temps → suspended wav s ≡ s

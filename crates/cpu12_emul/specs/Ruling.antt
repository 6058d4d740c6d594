-- Parts of REV and REVW that go on, and leave the instruction where it stands.
-- Beside the promise.
use Rattle.std.specs.Prelude.{◌≡◌, ◌≢◌, ℕ, List, slice_index}
use Rattle.cpu12_isa.specs.{declared.instr.Regs.Regs, Memory.plus, Memory.word_of}
use Rattle.cpu12_parts.specs.{Laws.IsOff, Parts.Kind, Parts.after_part, State.State}
use Rattle.cpu12_emul.specs.Run.{PartsTo}

-- the instruction of page two with this opcode stands at an address
pub record Stands (opcode pc : ℕ) (mem : List ℕ) : Type 0 where
  pub prebyte : slice_index mem pc ≡ 0x18
  pub code : slice_index mem (plus pc 1) ≡ opcode

-- an element is not that which ends a list, and the byte that it names is not one of the two at PC
pub record GoesOnBeside (stop element at pc : ℕ) : Type 0 where
  pub goes_on : element ≢ stop
  pub first : pc ≢ at
  pub second : plus pc 1 ≢ at

-- the next part of REV goes on, and cannot write where it stands; and that of REVW
abbrev pub RevGoesOn : List ℕ → Regs → Type 0
RevGoesOn mem r = let e = slice_index mem r.x in GoesOnBeside 255 e (plus r.y e) r.pc

abbrev pub RevwGoesOn : List ℕ → Regs → Type 0
RevwGoesOn mem r =
    let e = word_of (slice_index mem r.x) (slice_index mem (plus r.x 1)) in GoesOnBeside 65535 e e r.pc

-- n parts lead from s to t, and leave PC, SP and the instruction that stands there
pub record Ruled (opcode flags : ℕ) (s t : State) (n : ℕ) : Type 0 where
  pub parts : PartsTo (λ u. (u.regs.pc ≡ s.regs.pc) × (u.regs.sp ≡ s.regs.sp)) flags n s t
  pub pc : t.regs.pc ≡ s.regs.pc
  pub sp : t.regs.sp ≡ s.regs.sp
  pub temps : t.temps ≡ s.temps
  pub stands : Stands opcode s.regs.pc t.mem

-- where it leaves itself, the next part of an instruction in parts that stands at PC is such a part
abbrev pub RulesWhere : Kind → ℕ → (List ℕ → Regs → Type 0) → Type 0
RulesWhere k opcode LeavesItself =
    (flags : ℕ) (s : State) → LeavesItself s.mem s.regs → IsOff s.temps → Stands opcode s.regs.pc s.mem
    → Ruled opcode flags s (after_part k flags s) 1

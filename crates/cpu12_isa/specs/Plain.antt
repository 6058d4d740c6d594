-- What plain instructions leave: where PC goes on, SP, the flags that mask interrupts, and which bytes they write.
-- Beside the promise.
use Rattle.std.specs.Prelude.{◌≡◌, ℕ, not, ◌&&◌, Bool, true, false, List, [], ◌∷◌, length}
use Rattle.cpu12_isa.specs.declared.{instr.Regs.Regs, instr.Ccr.Ccr, instr.Instr.Instr}
use Rattle.cpu12_isa.specs.declared.instr.Instr.TheVariants.{LdsImmediate, StaaExtended, StabExtended, ClrExtended}
use Rattle.cpu12_isa.specs.declared.instr.Instr.TheVariants.{Beq, Bne, Bcc, Bcs, Bra, JsrExtended, Rts, Andcc, Orcc}
use Rattle.cpu12_isa.specs.declared.instr.Instr.TheVariants.{Rti, IncExtended, DecExtended, Psha, Pula}
use Rattle.cpu12_isa.specs.declared.instr.Instr.TheVariants.{MovbImmediate, MovbExtended, Mem}
use Rattle.cpu12_isa.specs.{Agreement.addresses, Code.encode_of, Flags.has, Flags.interrupts_masked, Flags.x_masked}
use Rattle.cpu12_isa.specs.{Meaning.Effect, Meaning.effect, Meaning.is_plain, Memory.plus}

-- whether it goes on to what stands behind it
abbrev pub passes_on : Instr → Bool
passes_on (Beq to) = false
passes_on (Bne to) = false
passes_on (Bcc to) = false
passes_on (Bcs to) = false
passes_on (Bra to) = false
passes_on (JsrExtended to) = false
passes_on Rts = false
passes_on Rti = false
passes_on i = is_plain i

-- SP behind it, from SP before
abbrev pub sp_behind : Instr → ℕ → ℕ
sp_behind (LdsImmediate v) sp = v
sp_behind (JsrExtended to) sp = plus sp 65534
sp_behind Rts sp = plus sp 2
sp_behind Rti sp = plus sp 9
sp_behind Psha sp = plus sp 65535
sp_behind Pula sp = plus sp 1
sp_behind i sp = sp

-- the flags of a byte
abbrev pub flags_of : ℕ → Ccr
flags_of byte = record { 0 = byte }

-- I and X
abbrev pub interrupt_masks : Ccr → Bool × Bool
interrupt_masks c = (has c interrupts_masked, has c x_masked)

-- whether it leaves I, and whether it leaves X
abbrev pub keeps_i : Instr → Bool
keeps_i (Andcc v) = has (flags_of v) interrupts_masked
keeps_i (Orcc v) = not (has (flags_of v) interrupts_masked)
keeps_i Rti = false
keeps_i i = is_plain i

abbrev pub keeps_x : Instr → Bool
keeps_x (Andcc v) = has (flags_of v) x_masked
keeps_x Rti = false
keeps_x i = is_plain i

-- the addresses that it writes, in order
abbrev pub written_by : Instr → Regs → List ℕ
written_by (StaaExtended at) r = at ∷ []
written_by (StabExtended at) r = at ∷ []
written_by (ClrExtended at) r = at ∷ []
written_by (JsrExtended to) r = plus r.sp 65534 ∷ plus r.sp 65535 ∷ []
written_by (IncExtended at) r = at ∷ []
written_by (DecExtended at) r = at ∷ []
written_by Psha r = plus r.sp 65535 ∷ []
written_by (MovbImmediate v at) r = at ∷ []
written_by (MovbExtended source at) r = at ∷ []
written_by Mem r = r.y ∷ []
written_by i r = []

-- what an instruction leaves by these tables
pub record IsPlainEffect (i : Instr) (r : Regs) (e : Effect) : Type 0 where
  pub pc : passes_on i ≡ true → e.regs.pc ≡ plus r.pc (length (encode_of i))
  pub sp : e.regs.sp ≡ sp_behind i r.sp
  pub mask : keeps_i i ≡ true → has e.regs.ccr interrupts_masked ≡ has r.ccr interrupts_masked
  pub x : keeps_x i ≡ true → has e.regs.ccr x_masked ≡ has r.ccr x_masked
  pub writes : addresses e.writes ≡ written_by i r

-- So does every plain instruction.
abbrev pub PlainLeavesByTables : Type 0
PlainLeavesByTables = (flags : ℕ) (i : Instr) (r : Regs) (mem : List ℕ) → is_plain i ≡ true
    → IsPlainEffect i r (effect flags i r mem)

-- whether it goes straight on: to what stands behind it, with SP, I and X as they were
abbrev pub is_straight : Instr → Bool
is_straight (LdsImmediate v) = false
is_straight Psha = false
is_straight Pula = false
is_straight i = passes_on i && (keeps_i i && keeps_x i)

pub record GoesStraightOn (i : Instr) (r : Regs) (e : Effect) : Type 0 where
  pub plain : is_plain i ≡ true
  pub pc : e.regs.pc ≡ plus r.pc (length (encode_of i))
  pub sp : e.regs.sp ≡ r.sp
  pub mask : has e.regs.ccr interrupts_masked ≡ has r.ccr interrupts_masked
  pub x : has e.regs.ccr x_masked ≡ has r.ccr x_masked

abbrev pub StraightGoesOn : Type 0
StraightGoesOn = (flags : ℕ) (i : Instr) (r : Regs) (mem : List ℕ) → is_straight i ≡ true
    → GoesStraightOn i r (effect flags i r mem)

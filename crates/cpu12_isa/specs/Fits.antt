-- Registers and writes of the sizes that they have.
-- Beside the promise.
use Rattle.std.specs.Prelude.{◌≡◌, Ok, ℕ, ◌^◌, ◌<◌, ◌≤◌, List, [], ◌∷◌, length, All, slice_index}
use Rattle.cpu12_isa.specs.declared.{instr.Regs.Regs, instr.Instr.Instr}
use Rattle.cpu12_isa.specs.Act.{write_all, Act, Give, Get}
use Rattle.cpu12_isa.specs.{Code.FitsOperands, Code.decode_at, Code.encode_of, Meaning.effect}

pub record FitsRegs (r : Regs) : Type 0 where
  pub a : r.a < 2 ^ 8
  pub b : r.b < 2 ^ 8
  pub x : r.x < 2 ^ 16
  pub y : r.y < 2 ^ 16
  pub sp : r.sp < 2 ^ 16
  pub pc : r.pc < 2 ^ 16
  pub ccr : r.ccr.0 < 2 ^ 8

-- writes of bytes at addresses
abbrev pub FitsWrites : List (ℕ × ℕ) → Type 0
FitsWrites [] = Unit {0}
FitsWrites (w ∷ ws) = (w.0 < 2 ^ 16) × (w.1 < 2 ^ 8) × FitsWrites ws

-- a memory of bytes
abbrev pub AreBytes : List ℕ → Type 0
AreBytes mem = (at : ℕ) → slice_index mem at < 2 ^ 8

-- whatever bytes are read, the value is of this kind
abbrev pub Leaves : {A : Type 0} → (A → Type 0) → Act A → Type 0
Leaves P (Give a) = P a
Leaves P (Get at next) = (v : ℕ) → v < 2 ^ 8 → Leaves P (next v)

-- What fits stays so: on a memory of bytes an instruction leaves registers that fit, and writes bytes.
abbrev pub StaysFit : Type 0
StaysFit =
    (flags : ℕ) (i : Instr) (r : Regs) (mem : List ℕ) → flags < 2 ^ 8 → FitsOperands i → FitsRegs r → AreBytes mem
    → FitsRegs (effect flags i r mem).regs × FitsWrites (effect flags i r mem).writes

-- Writes of bytes leave a memory of bytes.
abbrev pub BytesStay : Type 0
BytesStay = (ws : List (ℕ × ℕ)) (mem : List ℕ) → FitsWrites ws → AreBytes mem → AreBytes (write_all ws mem)

-- What is decoded on a memory of bytes has operands that fit.
abbrev pub DecodedFits : Type 0
DecodedFits = (mem : List ℕ) (pc : ℕ) (i : Instr) → AreBytes mem → decode_at mem pc ≡ Ok i → FitsOperands i

-- An instruction has six bytes at most.
abbrev pub EncodedIsShort : Type 0
EncodedIsShort = (i : Instr) → length (encode_of i) ≤ 6

-- Where its operands fit they are bytes.
abbrev pub EncodedAreBytes : Type 0
EncodedAreBytes = (i : Instr) → FitsOperands i → All (λ v. v < 2 ^ 8) (encode_of i)

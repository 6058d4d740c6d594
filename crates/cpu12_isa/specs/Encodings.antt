-- The table of encodings (CPU12 Reference Manual, appendix A).
-- Reached by the promise.
use Rattle.std.specs.Prelude.{ℕ, ◌^◌, ◌<◌, List, [], ◌∷◌, map}
use Rattle.cpu12_isa.specs.declared.{instr.Instr.Instr, encodings.Encoding.Encoding, mnemonic.Mnemonic.Mnemonic}
use Rattle.cpu12_isa.specs.declared.instr.Instr.TheVariants.{LdaaImmediate, LdaaExtended, LdabImmediate, LdabExtended}
use Rattle.cpu12_isa.specs.declared.instr.Instr.TheVariants.{LdxImmediate, LdyImmediate, LdsImmediate, StaaExtended}
use Rattle.cpu12_isa.specs.declared.instr.Instr.TheVariants.{StabExtended, ClrExtended, Coma, CpxImmediate, Beq, Bne}
use Rattle.cpu12_isa.specs.declared.instr.Instr.TheVariants.{Bcc, Bcs, Bra, JsrExtended, Rts, Andcc, Orcc, TransferXD}
use Rattle.cpu12_isa.specs.declared.instr.Instr.TheVariants.{TransferYD, Ediv, Fdiv, Rti, Nop, IncExtended}
use Rattle.cpu12_isa.specs.declared.instr.Instr.TheVariants.{DecExtended, AddaImmediate, AddaExtended, AddbImmediate}
use Rattle.cpu12_isa.specs.declared.instr.Instr.TheVariants.{AddbExtended, AddbPostIncrementX, AdcaImmediate}
use Rattle.cpu12_isa.specs.declared.instr.Instr.TheVariants.{SubaImmediate, SubaExtended, CmpaImmediate, CmpaExtended}
use Rattle.cpu12_isa.specs.declared.instr.Instr.TheVariants.{AndaImmediate, AndaExtended, OraaImmediate, OraaExtended}
use Rattle.cpu12_isa.specs.declared.instr.Instr.TheVariants.{Inx, Dex, Iny, Dey, Psha, Pula, MovbImmediate}
use Rattle.cpu12_isa.specs.declared.instr.Instr.TheVariants.{MovbExtended, Mem, Rev, Revw, Wav, Wavr}
use Rattle.cpu12_isa.specs.declared.mnemonic.Mnemonic.TheVariants as mnemonic
use Rattle.cpu12_isa.specs.{declared.encodings.Page.Page, declared.encodings.Operand.Operand, Memory.high_of}
use Rattle.cpu12_isa.specs.{Memory.low_of}
use Rattle.cpu12_isa.specs.declared.encodings.Page.TheVariants.{One, Two, Transfer, AddIndexed}
use Rattle.cpu12_isa.specs.declared.encodings.Operand.TheVariants.{Inherent, Byte, Word, Address, Offset, ByteToAddress}
use Rattle.cpu12_isa.specs.declared.encodings.Operand.TheVariants.{AddressToAddress, XToD, YToD, PostIncrementX}

abbrev row : Mnemonic → Page → ℕ → Operand → Encoding
row mnemonic page opcode operand = record { mnemonic = mnemonic; page = page; opcode = opcode; operand = operand }

-- the encoding of an instruction: its mnemonic, its page and opcode, and its operand
abbrev pub encoding_of : Instr → Encoding
encoding_of (LdaaImmediate v) = row mnemonic.Ldaa One 0x86 (Byte v)
encoding_of (LdaaExtended v) = row mnemonic.Ldaa One 0xB6 (Address v)
encoding_of (LdabImmediate v) = row mnemonic.Ldab One 0xC6 (Byte v)
encoding_of (LdabExtended v) = row mnemonic.Ldab One 0xF6 (Address v)
encoding_of (LdxImmediate v) = row mnemonic.Ldx One 0xCE (Word v)
encoding_of (LdyImmediate v) = row mnemonic.Ldy One 0xCD (Word v)
encoding_of (LdsImmediate v) = row mnemonic.Lds One 0xCF (Word v)
encoding_of (StaaExtended v) = row mnemonic.Staa One 0x7A (Address v)
encoding_of (StabExtended v) = row mnemonic.Stab One 0x7B (Address v)
encoding_of (ClrExtended v) = row mnemonic.Clr One 0x79 (Address v)
encoding_of Coma = row mnemonic.Coma One 0x41 Inherent
encoding_of (CpxImmediate v) = row mnemonic.Cpx One 0x8E (Word v)
encoding_of (Beq v) = row mnemonic.Beq One 0x27 (Offset v)
encoding_of (Bne v) = row mnemonic.Bne One 0x26 (Offset v)
encoding_of (Bcc v) = row mnemonic.Bcc One 0x24 (Offset v)
encoding_of (Bcs v) = row mnemonic.Bcs One 0x25 (Offset v)
encoding_of (Bra v) = row mnemonic.Bra One 0x20 (Offset v)
encoding_of (JsrExtended v) = row mnemonic.Jsr One 0x16 (Address v)
encoding_of Rts = row mnemonic.Rts One 0x3D Inherent
encoding_of (Andcc v) = row mnemonic.Andcc One 0x10 (Byte v)
encoding_of (Orcc v) = row mnemonic.Orcc One 0x14 (Byte v)
encoding_of TransferXD = row mnemonic.Tfr Transfer 0x54 XToD
encoding_of TransferYD = row mnemonic.Tfr Transfer 0x64 YToD
encoding_of Ediv = row mnemonic.Ediv One 0x11 Inherent
encoding_of Fdiv = row mnemonic.Fdiv Two 0x11 Inherent
encoding_of Rti = row mnemonic.Rti One 0x0B Inherent
encoding_of Nop = row mnemonic.Nop One 0xA7 Inherent
encoding_of (IncExtended v) = row mnemonic.Inc One 0x72 (Address v)
encoding_of (DecExtended v) = row mnemonic.Dec One 0x73 (Address v)
encoding_of (AddaImmediate v) = row mnemonic.Adda One 0x8B (Byte v)
encoding_of (AddaExtended v) = row mnemonic.Adda One 0xBB (Address v)
encoding_of (AddbImmediate v) = row mnemonic.Addb One 0xCB (Byte v)
encoding_of (AddbExtended v) = row mnemonic.Addb One 0xFB (Address v)
encoding_of AddbPostIncrementX = row mnemonic.Addb AddIndexed 0x30 PostIncrementX
encoding_of (AdcaImmediate v) = row mnemonic.Adca One 0x89 (Byte v)
encoding_of (SubaImmediate v) = row mnemonic.Suba One 0x80 (Byte v)
encoding_of (SubaExtended v) = row mnemonic.Suba One 0xB0 (Address v)
encoding_of (CmpaImmediate v) = row mnemonic.Cmpa One 0x81 (Byte v)
encoding_of (CmpaExtended v) = row mnemonic.Cmpa One 0xB1 (Address v)
encoding_of (AndaImmediate v) = row mnemonic.Anda One 0x84 (Byte v)
encoding_of (AndaExtended v) = row mnemonic.Anda One 0xB4 (Address v)
encoding_of (OraaImmediate v) = row mnemonic.Oraa One 0x8A (Byte v)
encoding_of (OraaExtended v) = row mnemonic.Oraa One 0xBA (Address v)
encoding_of Inx = row mnemonic.Inx One 0x08 Inherent
encoding_of Dex = row mnemonic.Dex One 0x09 Inherent
encoding_of Iny = row mnemonic.Iny One 0x02 Inherent
encoding_of Dey = row mnemonic.Dey One 0x03 Inherent
encoding_of Psha = row mnemonic.Psha One 0x36 Inherent
encoding_of Pula = row mnemonic.Pula One 0x32 Inherent
encoding_of (MovbImmediate v at) = row mnemonic.Movb Two 0x0B (ByteToAddress v at)
encoding_of (MovbExtended source at) = row mnemonic.Movb Two 0x0C (AddressToAddress source at)
encoding_of Mem = row mnemonic.Mem One 0x01 Inherent
encoding_of Rev = row mnemonic.Rev Two 0x3A Inherent
encoding_of Revw = row mnemonic.Revw Two 0x3B Inherent
encoding_of Wav = row mnemonic.Wav Two 0x3C Inherent
encoding_of Wavr = row mnemonic.Wavr One 0x3C Inherent

-- an instruction as a function of its operands
pub data Made : Type 0 where
  Alone : Instr → Made
  Of : (ℕ → Instr) → Made
  OfBoth : (ℕ → ℕ → Instr) → Made

-- each encoding once
abbrev pub every_encoding : List Made
every_encoding =
    Of LdaaImmediate
    ∷ Of LdaaExtended
    ∷ Of LdabImmediate
    ∷ Of LdabExtended
    ∷ Of LdxImmediate
    ∷ Of LdyImmediate
    ∷ Of LdsImmediate
    ∷ Of StaaExtended
    ∷ Of StabExtended
    ∷ Of ClrExtended
    ∷ Alone Coma
    ∷ Of CpxImmediate
    ∷ Of Beq
    ∷ Of Bne
    ∷ Of Bcc
    ∷ Of Bcs
    ∷ Of Bra
    ∷ Of JsrExtended
    ∷ Alone Rts
    ∷ Of Andcc
    ∷ Of Orcc
    ∷ Alone TransferXD
    ∷ Alone TransferYD
    ∷ Alone Ediv
    ∷ Alone Fdiv
    ∷ Alone Rti
    ∷ Alone Nop
    ∷ Of IncExtended
    ∷ Of DecExtended
    ∷ Of AddaImmediate
    ∷ Of AddaExtended
    ∷ Of AddbImmediate
    ∷ Of AddbExtended
    ∷ Alone AddbPostIncrementX
    ∷ Of AdcaImmediate
    ∷ Of SubaImmediate
    ∷ Of SubaExtended
    ∷ Of CmpaImmediate
    ∷ Of CmpaExtended
    ∷ Of AndaImmediate
    ∷ Of AndaExtended
    ∷ Of OraaImmediate
    ∷ Of OraaExtended
    ∷ Alone Inx
    ∷ Alone Dex
    ∷ Alone Iny
    ∷ Alone Dey
    ∷ Alone Psha
    ∷ Alone Pula
    ∷ OfBoth MovbImmediate
    ∷ OfBoth MovbExtended
    ∷ Alone Mem
    ∷ Alone Rev
    ∷ Alone Revw
    ∷ Alone Wav
    ∷ Alone Wavr ∷ []

-- an instruction with operands 0
abbrev pub sample_of : Made → Instr
sample_of (Alone i) = i
sample_of (Of make) = make 0
sample_of (OfBoth make) = make 0 0

-- an instruction of each encoding
abbrev pub every : List Instr
every = map sample_of every_encoding

-- the bytes before an opcode
abbrev pub prebytes : Page → List ℕ
prebytes One = []
prebytes Two = 0x18 ∷ []
prebytes Transfer = 0xB7 ∷ []
prebytes AddIndexed = 0xEB ∷ []

-- the bytes of an operand, behind the opcode
abbrev pub operand_bytes : Operand → List ℕ
operand_bytes (Byte v) = v ∷ []
operand_bytes (Offset v) = v ∷ []
operand_bytes (Word v) = high_of v ∷ low_of v ∷ []
operand_bytes (Address v) = high_of v ∷ low_of v ∷ []
operand_bytes (ByteToAddress v at) = v ∷ high_of at ∷ low_of at ∷ []
operand_bytes (AddressToAddress source at) = high_of source ∷ low_of source ∷ high_of at ∷ low_of at ∷ []
operand_bytes _ = []

-- an operand of bytes and words
abbrev pub FitsOperand : Operand → Type 0
FitsOperand (Byte v) = v < 2 ^ 8
FitsOperand (Offset v) = v < 2 ^ 8
FitsOperand (Word v) = v < 2 ^ 16
FitsOperand (Address v) = v < 2 ^ 16
FitsOperand (ByteToAddress v at) = (v < 2 ^ 8) × (at < 2 ^ 16)
FitsOperand (AddressToAddress source at) = (source < 2 ^ 16) × (at < 2 ^ 16)
FitsOperand _ = Unit {0}

-- The names of operations as they are written.
-- Beside the promise.
use Rattle.std.specs.Prelude.{ℕ, List, codes}
use Rattle.cpu12_isa.specs.declared.mnemonic.Mnemonic.{Mnemonic}
use Rattle.cpu12_isa.specs.declared.mnemonic.Mnemonic.TheVariants.{Ldaa, Ldab, Ldx, Ldy, Lds, Staa, Stab, Clr, Coma}
use Rattle.cpu12_isa.specs.declared.mnemonic.Mnemonic.TheVariants.{Cpx, Beq, Bne, Bcc, Bcs, Bra, Jsr, Rts, Andcc}
use Rattle.cpu12_isa.specs.declared.mnemonic.Mnemonic.TheVariants.{Orcc, Tfr, Ediv, Fdiv, Rti, Nop, Inc, Dec, Adda}
use Rattle.cpu12_isa.specs.declared.mnemonic.Mnemonic.TheVariants.{Addb, Adca, Suba, Cmpa, Anda, Oraa, Inx, Dex, Iny}
use Rattle.cpu12_isa.specs.declared.mnemonic.Mnemonic.TheVariants.{Dey, Psha, Pula, Movb, Mem, Rev, Revw, Wav, Wavr}

-- the letters of a mnemonic
abbrev pub text_of : Mnemonic → List ℕ
text_of Ldaa = codes "LDAA"
text_of Ldab = codes "LDAB"
text_of Ldx = codes "LDX"
text_of Ldy = codes "LDY"
text_of Lds = codes "LDS"
text_of Staa = codes "STAA"
text_of Stab = codes "STAB"
text_of Clr = codes "CLR"
text_of Coma = codes "COMA"
text_of Cpx = codes "CPX"
text_of Beq = codes "BEQ"
text_of Bne = codes "BNE"
text_of Bcc = codes "BCC"
text_of Bcs = codes "BCS"
text_of Bra = codes "BRA"
text_of Jsr = codes "JSR"
text_of Rts = codes "RTS"
text_of Andcc = codes "ANDCC"
text_of Orcc = codes "ORCC"
text_of Tfr = codes "TFR"
text_of Ediv = codes "EDIV"
text_of Fdiv = codes "FDIV"
text_of Rti = codes "RTI"
text_of Nop = codes "NOP"
text_of Inc = codes "INC"
text_of Dec = codes "DEC"
text_of Adda = codes "ADDA"
text_of Addb = codes "ADDB"
text_of Adca = codes "ADCA"
text_of Suba = codes "SUBA"
text_of Cmpa = codes "CMPA"
text_of Anda = codes "ANDA"
text_of Oraa = codes "ORAA"
text_of Inx = codes "INX"
text_of Dex = codes "DEX"
text_of Iny = codes "INY"
text_of Dey = codes "DEY"
text_of Psha = codes "PSHA"
text_of Pula = codes "PULA"
text_of Movb = codes "MOVB"
text_of Mem = codes "MEM"
text_of Rev = codes "REV"
text_of Revw = codes "REVW"
text_of Wav = codes "WAV"
text_of Wavr = codes "WAVR"

-- The bytes of an instruction.
use Rattle.std.proofs.Common.{ℕ, ◌^◌, ◌<◌, ◌≤◌, ◌++◌, List, [], ◌∷◌, length, All, arith}
use Rattle.std.proofs.lemmas.List.Elements.{All-nil, All-cons}
use Rattle.cpu12_isa.specs.declared.{instr.Instr.Instr, instr.Instr.TheVariants.LdaaImmediate, encodings.Page.Page}
use Rattle.cpu12_isa.specs.declared.encodings.Page.TheVariants.{One, Two, Transfer, AddIndexed}
use Rattle.cpu12_isa.specs.declared.encodings.Operand.{Operand}
use Rattle.cpu12_isa.specs.declared.encodings.Operand.TheVariants.{Byte, Word, Address, Offset, ByteToAddress}
use Rattle.cpu12_isa.specs.declared.encodings.Operand.TheVariants.{AddressToAddress}
use Rattle.cpu12_isa.specs.{Fits.EncodedIsShort, Fits.EncodedAreBytes, Memory.high_of, Memory.low_of}
use Rattle.cpu12_isa.specs.Encodings.{encoding_of, prebytes, operand_bytes, FitsOperand}

operand_short : (o : Operand) → length (operand_bytes o) ≤ 4
operand_short (Byte v) = omega arith
operand_short o = omega arith

behind_page : (page : Page) (opcode : ℕ) (bytes : List ℕ) → length bytes ≤ 4
    → length (prebytes page ++ (opcode ∷ bytes)) ≤ 6
behind_page One opcode bytes h = omega arith
behind_page page opcode bytes h = omega arith

pub encoded_is_short : EncodedIsShort
encoded_is_short i =
    behind_page (encoding_of i).page (encoding_of i).opcode (operand_bytes (encoding_of i).operand)
    (operand_short (encoding_of i).operand)

-- ---- bytes

abbrev IsByte : ℕ → Type 0
IsByte v = v < 2 ^ 8

one_byte : (v : ℕ) → v < 2 ^ 8 → All IsByte (v ∷ [])
one_byte v h = All-cons IsByte v [] h (All-nil IsByte)

with_word : (v : ℕ) (bytes : List ℕ) → v < 2 ^ 16 → All IsByte bytes
    → All IsByte (high_of v ∷ low_of v ∷ bytes)
with_word v bytes h rest =
    All-cons IsByte (high_of v) (low_of v ∷ bytes) (omega arith)
    (All-cons IsByte (low_of v) bytes (omega arith) rest)

operand_is_bytes : (o : Operand) → FitsOperand o → All IsByte (operand_bytes o)
operand_is_bytes (Byte v) h = one_byte v h
operand_is_bytes (Offset v) h = one_byte v h
operand_is_bytes (Word v) h = with_word v [] h (All-nil IsByte)
operand_is_bytes (Address v) h = with_word v [] h (All-nil IsByte)
operand_is_bytes (ByteToAddress v at) h =
    All-cons IsByte v (high_of at ∷ low_of at ∷ []) h.0 (with_word at [] h.1 (All-nil IsByte))
operand_is_bytes (AddressToAddress source at) h =
    with_word source (high_of at ∷ low_of at ∷ []) h.0 (with_word at [] h.1 (All-nil IsByte))
operand_is_bytes o h = All-nil IsByte

page_is_bytes : (page : Page) (bytes : List ℕ) → All IsByte bytes → All IsByte (prebytes page ++ bytes)
page_is_bytes One bytes h = h
page_is_bytes Two bytes h = All-cons IsByte 0x18 bytes (omega arith) h
page_is_bytes Transfer bytes h = All-cons IsByte 0xB7 bytes (omega arith) h
page_is_bytes AddIndexed bytes h = All-cons IsByte 0xEB bytes (omega arith) h

pub opcode_is_byte : (i : Instr) → (encoding_of i).opcode < 2 ^ 8
opcode_is_byte (LdaaImmediate v) = omega arith
opcode_is_byte i = omega arith

pub encoded_are_bytes : EncodedAreBytes
encoded_are_bytes i h =
    let operand = operand_bytes (encoding_of i).operand in
    page_is_bytes (encoding_of i).page ((encoding_of i).opcode ∷ operand)
    (All-cons IsByte (encoding_of i).opcode operand (opcode_is_byte i) (operand_is_bytes (encoding_of i).operand h))

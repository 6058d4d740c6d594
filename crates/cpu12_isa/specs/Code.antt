-- Instructions as bytes (CPU12 Reference Manual, appendix A).
-- Reached by the promise.
use Rattle.std.specs.Prelude.{◌≡◌, ◌+◌, ◌==◌, ◌++◌, ℕ, Bool, true, false, if◌then◌else◌, Result, Ok, Err, List, [], ◌∷◌}
use Rattle.std.specs.Prelude.{flat_map, length, slice_index, IfOk, IfErr, MatchResult}
use Rattle.cpu12_isa.specs.declared.{instr.Instr.Instr, instr.Trap.Trap, encodings.Encoding.Encoding}
use Rattle.cpu12_isa.specs.declared.{encodings.Page.Page, encodings.Operand.Operand}
use Rattle.cpu12_isa.specs.declared.encodings.Page.TheVariants.{One, Two, Transfer, AddIndexed}
use Rattle.cpu12_isa.specs.declared.encodings.Operand.TheVariants.{Word, Address, AddressToAddress}
use Rattle.cpu12_isa.specs.Memory.{plus, word_of, bytes_at}
use Rattle.cpu12_isa.specs.Encodings.{encoding_of, Made, Alone, Of, OfBoth, every_encoding, prebytes, operand_bytes}
use Rattle.cpu12_isa.specs.Encodings.{FitsOperand}

-- the bytes of an encoding
abbrev pub encoding_bytes : Encoding → List ℕ
encoding_bytes encoding = prebytes encoding.page ++ (encoding.opcode ∷ operand_bytes encoding.operand)

-- the bytes of an instruction
abbrev pub encode_of : Instr → List ℕ
encode_of i = encoding_bytes (encoding_of i)

-- the bytes of instructions one after another
abbrev pub code_bytes : List Instr → List ℕ
code_bytes code = flat_map encode_of code

-- operands that are bytes and words
abbrev pub FitsOperands : Instr → Type 0
FitsOperands i = FitsOperand (encoding_of i).operand

-- instructions whose operands fit
abbrev pub FitCode : List Instr → Type 0
FitCode [] = Unit {0}
FitCode (i ∷ is) = FitsOperands i × FitCode is

-- the word in bytes from a place
abbrev pub word_in : List ℕ → ℕ → ℕ
word_in bytes k = word_of (slice_index bytes k) (slice_index bytes (k + 1))

-- the first and the second operand of this shape in bytes from a place
abbrev pub first_in : Operand → List ℕ → ℕ → ℕ
first_in (Word _) bytes k = word_in bytes k
first_in (Address _) bytes k = word_in bytes k
first_in (AddressToAddress _ _) bytes k = word_in bytes k
first_in _ bytes k = slice_index bytes k

abbrev pub second_in : Operand → List ℕ → ℕ → ℕ
second_in (AddressToAddress _ _) bytes k = word_in bytes (k + 2)
second_in _ bytes k = word_in bytes (k + 1)

-- where operands begin
abbrev pub operands_at : Encoding → ℕ
operands_at encoding = length (prebytes encoding.page) + 1

-- an instruction of an encoding, with the operands that stand in bytes
abbrev pub made_from : List ℕ → Made → Instr
made_from bytes (Alone i) = i
made_from bytes (Of make) =
    let encoding = encoding_of (make 0) in make (first_in encoding.operand bytes (operands_at encoding))
made_from bytes (OfBoth make) =
    let encoding = encoding_of (make 0 0) in
    make (first_in encoding.operand bytes (operands_at encoding))
    (second_in encoding.operand bytes (operands_at encoding))

abbrev pub is_on : Page → Page → Bool
is_on One One = true
is_on Two Two = true
is_on Transfer Transfer = true
is_on AddIndexed AddIndexed = true
is_on _ _ = false

-- the instructions of a page by their opcodes, with the operands that stand in bytes
abbrev pub on_page : Page → List ℕ → List Made → List (ℕ × Instr)
on_page page bytes [] = []
on_page page bytes (made ∷ mades) =
    let i = made_from bytes made in
    let encoding = encoding_of i in
    if is_on page encoding.page then (encoding.opcode, i) ∷ on_page page bytes mades else on_page page bytes mades

abbrev pub page_of : Page → List ℕ → List (ℕ × Instr)
page_of page bytes = on_page page bytes every_encoding

-- the entry of a byte in a table, or that byte
abbrev pub entry : List (ℕ × Instr) → ℕ → Result Instr ℕ
entry [] n = Err n
entry (e ∷ es) n = if n == e.0 then Ok e.1 else entry es n

-- the instruction that six bytes begin with, or the first byte that is in no table
abbrev pub decode_of : List ℕ → Result Instr ℕ
decode_of bytes =
    if slice_index bytes 0 == 0x18 then entry (page_of Two bytes) (slice_index bytes 1) else (
    if slice_index bytes 0 == 0xB7 then entry (page_of Transfer bytes) (slice_index bytes 1) else (
    if slice_index bytes 0 == 0xEB then entry (page_of AddIndexed bytes) (slice_index bytes 1) else
    entry (page_of One bytes) (slice_index bytes 0)))

-- the six addresses from one on
abbrev pub six_from : ℕ → List ℕ
six_from pc = pc ∷ plus pc 1 ∷ plus pc 2 ∷ plus pc 3 ∷ plus pc 4 ∷ plus pc 5 ∷ []

-- what stands at an address
abbrev pub decode_at : List ℕ → ℕ → Result Instr ℕ
decode_at mem pc = decode_of (bytes_at mem (six_from pc))

-- a list begins with another
abbrev pub Begins : List ℕ → List ℕ → Type 0
Begins bytes [] = Unit {0}
Begins [] (v ∷ vs) = ⊥
Begins (b ∷ bs) (v ∷ vs) = (b ≡ v) × Begins bs vs

-- the bytes of an instruction stand at an address, also over the end of memory
abbrev pub StandsAt : List ℕ → ℕ → Instr → Type 0
StandsAt mem pc i = Begins (bytes_at mem (six_from pc)) (encode_of i)

-- the answer of decoding there: the instruction that stands there, with operands that fit, or the byte that begins none
pub record IsDecoded (mem : List ℕ) (pc : ℕ) (result : Result Instr Trap) : Type 0 where
  pub found : MatchResult result (λ i. decode_at mem pc ≡ Ok i) (λ t. decode_at mem pc ≡ Err t.byte)
  pub stands : IfOk result (λ i. StandsAt mem pc i)
  pub fits : IfOk result FitsOperands
  pub place : IfErr result (λ t. t.pc ≡ pc)

-- what stands encoded at an address is what is decoded there
abbrev pub DecodesEncoded : Type 0
DecodesEncoded = (mem : List ℕ) (pc : ℕ) (i : Instr) → FitsOperands i → StandsAt mem pc i → decode_at mem pc ≡ Ok i

-- bytes stand in a list from a place on
abbrev pub StandFrom : List ℕ → ℕ → List ℕ → Type 0
StandFrom bytes k [] = Unit {0}
StandFrom bytes k (v ∷ vs) = (slice_index bytes k ≡ v) × StandFrom bytes (k + 1) vs

-- what is decoded has its opcode there, and its page's byte before it
abbrev pub DecodedHasOpcode : Type 0
DecodedHasOpcode =
    (bytes : List ℕ) (i : Instr) → decode_of bytes ≡ Ok i
    → StandFrom bytes 0 (prebytes (encoding_of i).page ++ ((encoding_of i).opcode ∷ []))

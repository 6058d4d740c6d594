-- What the lines of a source give, once all its names have values.
-- Beside the promise.
use Rattle.std.specs.Prelude.{ℕ, ◌+◌, ◌-◌, ◌%◌, ◌^◌, ◌&&◌, nat_lt, nat_le, if◌then◌else◌, Bool, true, false, not, List}
use Rattle.std.specs.Prelude.{[], ◌∷◌, ◌++◌, length, map, drop, slice_index, Option, Some, None, is_some, Result, Ok}
use Rattle.std.specs.Prelude.{Err}
use Rattle.std.specs.List.{list_any, flat_map}
use Rattle.cpu12_isa.specs.{declared.encodings.Operand.Operand, Code.encoding_bytes, Memory.high_of, Memory.low_of}
use Rattle.cpu12_isa.specs.declared.encodings.Operand.TheVariants.{Byte, Word, Address, Offset, ByteToAddress}
use Rattle.cpu12_isa.specs.declared.encodings.Operand.TheVariants.{AddressToAddress}
use Rattle.cpu12_asm.specs.declared.faults.LineFault.{LineFault}
use Rattle.cpu12_asm.specs.declared.faults.LineFault.TheVariants as fault
use Rattle.cpu12_asm.specs.declared.{operands.Limits.Limits, statements.Action.Action}
use Rattle.cpu12_asm.specs.declared.statements.Action.TheVariants.{Origin, Bytes, Words, Operate}
use Rattle.cpu12_asm.specs.{Bytes.byte_at, Bytes.placed, Lines.pieces, Expressions.sum_of, Statements.Statement}
use Rattle.cpu12_asm.specs.Values.{fits, within}

abbrev limits : ℕ → ℕ → Bool → Option Limits
limits first other immediate = Some (record { first = first; other = other; immediate = immediate })

-- how large the values of an operand may be, and whether a # stands before them; none where there are no values
abbrev pub operand_limits : Operand → Option Limits
operand_limits (Byte _) = limits 0xFF 0xFF true
operand_limits (Word _) = limits 0xFFFF 0xFFFF true
operand_limits (Address _) = limits 0xFFFF 0xFFFF false
operand_limits (Offset _) = limits 0xFFFF 0xFFFF false
operand_limits (ByteToAddress _ _) = limits 0xFF 0xFFFF true
operand_limits (AddressToAddress _ _) = limits 0xFFFF 0xFFFF false
operand_limits _ = None

abbrev pub limits_of : Action → Option Limits
limits_of Bytes = limits 0xFF 0xFF false
limits_of Words = limits 0xFFFF 0xFFFF false
limits_of (Operate encoding) = operand_limits encoding.operand
limits_of _ = None

abbrev pub any_unknown : (List ℕ → Option ℕ) → List (List ℕ) → Bool
any_unknown value parts = list_any (λ e. (sum_of value e).unknown) parts

abbrev pub before : ℕ → Result (List ℕ) LineFault → Result (List ℕ) LineFault
before v (Ok vs) = Ok (v ∷ vs)
before v (Err f) = Err f

-- the values of expressions, the first and the others within their limits
abbrev pub values_from : (List ℕ → Option ℕ) → ℕ → ℕ → List (List ℕ) → Result (List ℕ) LineFault
values_from value first other [] = Ok []
values_from value first other (e ∷ es) =
    if fits first (sum_of value e)
    then before ((sum_of value e).added - (sum_of value e).taken) (values_from value other other es)
    else Err fault.Range

abbrev pub values_of : (List ℕ → Option ℕ) → ℕ → ℕ → List ℕ → Result (List ℕ) LineFault
values_of value first other text =
    if any_unknown value (pieces 0x2C text) then Err fault.UnknownName
    else values_from value first other (pieces 0x2C text)

abbrev pub values_within : (List ℕ → Option ℕ) → List ℕ → Option Limits → Result (List ℕ) LineFault
values_within value text None = Ok []
values_within value text (Some l) = values_of value l.first l.other (if l.immediate then drop 1 text else text)

-- where the instruction behind a branch stands
abbrev pub behind_branch : ℕ → ℕ
behind_branch place = place + 2

-- a shape with values; a branch has the offset of its target from the next instruction
abbrev pub operand_with : ℕ → List ℕ → Operand → Operand
operand_with place vs (Byte _) = Byte (slice_index vs 0 % 2 ^ 8)
operand_with place vs (Word _) = Word (slice_index vs 0)
operand_with place vs (Address _) = Address (slice_index vs 0)
operand_with place vs (Offset _) = Offset ((slice_index vs 0 + 2 ^ 17 - behind_branch place) % 2 ^ 8)
operand_with place vs (ByteToAddress _ _) = ByteToAddress (slice_index vs 0 % 2 ^ 8) (slice_index vs 1)
operand_with place vs (AddressToAddress _ _) = AddressToAddress (slice_index vs 0) (slice_index vs 1)
operand_with place vs o = o

-- the target is more than 128 bytes before the next instruction, or more than 127 behind it
abbrev pub is_far : ℕ → List ℕ → Operand → Bool
is_far place vs (Offset _) =
    not (nat_le (behind_branch place) (slice_index vs 0 + 128) && nat_le (slice_index vs 0) (behind_branch place + 127))
is_far place vs _ = false

abbrev pub word_bytes : ℕ → List ℕ
word_bytes v = high_of v ∷ low_of v ∷ []

abbrev pub bytes_with : ℕ → Action → List ℕ → List ℕ
bytes_with place Bytes vs = map low_of vs
bytes_with place Words vs = flat_map word_bytes vs
bytes_with place (Operate encoding) vs =
    encoding_bytes (record encoding { operand = operand_with place vs encoding.operand })
bytes_with place _ vs = []

abbrev pub branches_far : ℕ → Action → List ℕ → Bool
branches_far place (Operate encoding) vs = is_far place vs encoding.operand
branches_far place _ vs = false

-- what lines gave, and where the next stands
pub record Given : Type 0 where
  pub place : ℕ
  pub bytes : List (ℕ × ℕ)

abbrev pub overlaps : Given → List ℕ → Bool
overlaps g bytes = list_any (λ b. is_some (byte_at g.bytes b.0)) (placed g.place bytes)

-- bytes at the place, unless they pass the end of memory, are those of a branch that is too far, or stand where others
-- do
abbrev pub put : Given → Bool → List ℕ → Result Given LineFault
put g far bytes =
    if nat_lt (2 ^ 16) (g.place + length bytes) then Err fault.Range else (
    if far then Err fault.BranchFar else (
    if overlaps g bytes then Err fault.Overlap else
    Ok (record { place = g.place + length bytes; bytes = g.bytes ++ placed g.place bytes })))

abbrev pub put_values : Given → Action → Result (List ℕ) LineFault → Result Given LineFault
put_values g a (Ok vs) = put g (branches_far g.place a vs) (bytes_with g.place a vs)
put_values g a (Err f) = Err f

abbrev pub moved : Given → Result ℕ LineFault → Result Given LineFault
moved g (Ok place) = Ok (record g { place = place })
moved g (Err f) = Err f

abbrev pub given_with : (List ℕ → Option ℕ) → Given → Action → List ℕ → Result Given LineFault
given_with value g Origin text = moved g (within 0xFFFF (sum_of value text))
given_with value g a text = put_values g a (values_within value text (limits_of a))

-- what is given behind one line more, or that line's fault
abbrev pub given : (List ℕ → Option ℕ) → Given → Option Statement → Result Given LineFault
given value g None = Err fault.BadLine
given value g (Some s) = given_with value g s.action s.operand

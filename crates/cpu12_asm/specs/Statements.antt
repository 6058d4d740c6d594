-- What a line of source says.
-- Beside the promise.
use Rattle.std.specs.Prelude.{ℕ, ◌==◌, ◌&&◌, ◌||◌, nat_lt, if◌then◌else◌, Bool, false, not, List, [], ◌∷◌, length}
use Rattle.std.specs.Prelude.{Option, Some, None, codes}
use Rattle.std.specs.List.{list_all, find}
use Rattle.std.specs.Str.{bytes_eq}
use Rattle.cpu12_isa.specs.{declared.instr.Instr.Instr, declared.encodings.Operand.Operand, Encodings.encoding_of}
use Rattle.cpu12_isa.specs.{Encodings.every}
use Rattle.cpu12_isa.specs.declared.encodings.Operand.TheVariants.{Inherent, Byte, Word, Address, Offset, ByteToAddress}
use Rattle.cpu12_isa.specs.declared.encodings.Operand.TheVariants.{AddressToAddress, XToD, YToD, PostIncrementX}
use Rattle.cpu12_asm.specs.declared.statements.Action.{Action}
use Rattle.cpu12_asm.specs.declared.statements.Action.TheVariants as action
use Rattle.cpu12_asm.specs.Lines.{pieces, code_of, first_word, behind_word}
use Rattle.cpu12_asm.specs.Expressions.{sum_of, names_instruction, is_name}

-- each term is a number or a name
abbrev pub is_expression : List ℕ → Bool
is_expression text = not (sum_of (λ name. None) text).bad

abbrev pub are_expressions : List ℕ → Bool
are_expressions text = list_all is_expression (pieces 0x2C text)

abbrev pub part_count : List ℕ → ℕ
part_count text = length (pieces 0x2C text)

-- n expressions between commas
abbrev pub has_parts : ℕ → List ℕ → Bool
has_parts n text = (part_count text == n) && are_expressions text

-- # and n expressions
abbrev pub is_immediate : ℕ → List ℕ → Bool
is_immediate n [] = false
is_immediate n (b ∷ bs) = (b == 0x23) && has_parts n bs

-- the text is an operand of this shape
abbrev pub takes : Operand → List ℕ → Bool
takes Inherent text = length text == 0
takes XToD text = bytes_eq text (codes "X,D")
takes YToD text = bytes_eq text (codes "Y,D")
takes PostIncrementX text = bytes_eq text (codes "1,X+")
takes (Byte _) text = is_immediate 1 text
takes (Word _) text = is_immediate 1 text
takes (Address _) text = has_parts 1 text
takes (Offset _) text = has_parts 1 text
takes (ByteToAddress _ _) text = is_immediate 2 text
takes (AddressToAddress _ _) text = has_parts 2 text

abbrev pub is_named_by : List ℕ → List ℕ → Instr → Bool
is_named_by word text i = names_instruction word i && takes (encoding_of i).operand text

abbrev pub allowed : Bool → Action → Option Action
allowed b a = if b then Some a else None

abbrev pub operate : Option Instr → Option Action
operate None = None
operate (Some i) = Some (action.Operate (encoding_of i))

-- what an operation with this operand does, on a line with or without a name
abbrev pub action_of : Bool → List ℕ → List ℕ → Option Action
action_of is_named word text =
    if length word == 0 then Some action.Nothing else (
    if bytes_eq word (codes "ORG") then allowed (is_expression text) action.Origin else (
    if bytes_eq word (codes "EQU") then allowed (is_named && is_expression text) action.Equate else (
    if bytes_eq word (codes "FCB") then allowed (are_expressions text) action.Bytes else (
    if bytes_eq word (codes "FDB") then allowed (are_expressions text) action.Words else
    operate (find (is_named_by word text) every)))))

-- a line's name, where it has one, with what it does and its operand
pub record Statement : Type 0 where
  pub name : List ℕ
  pub action : Action
  pub operand : List ℕ

abbrev pub stated : List ℕ → List ℕ → Option Action → Option Statement
stated name operand None = None
stated name operand (Some a) = Some (record { name = name; action = a; operand = operand })

-- what the words behind a name say
abbrev pub statement_with : List ℕ → List ℕ → Option Statement
statement_with name text =
    if length (behind_word (behind_word text)) == 0
    then stated name (first_word (behind_word text))
    (action_of (nat_lt 0 (length name)) (first_word text) (first_word (behind_word text)))
    else None

-- what a line says, or none where it has another shape
abbrev pub statement_of : List ℕ → Option Statement
statement_of line =
    if (length (first_word (code_of line)) == 0) || is_name (first_word (code_of line))
    then statement_with (first_word (code_of line)) (behind_word (code_of line))
    else None

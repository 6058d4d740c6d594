-- What the lines of a source define: the values of names, and places.
-- Beside the promise.
use Rattle.std.specs.Prelude.{ℕ, ◌+◌, ◌*◌, ◌-◌, ◌&&◌, nat_le, if◌then◌else◌, Bool, false, not, List, [], ◌∷◌, length}
use Rattle.std.specs.Prelude.{Option, Some, None, is_some, Result, Ok, Err}
use Rattle.std.specs.Str.{bytes_eq}
use Rattle.cpu12_isa.specs.Code.{encoding_bytes}
use Rattle.cpu12_asm.specs.declared.{expressions.Sum.Sum, faults.LineFault.LineFault, statements.Action.Action}
use Rattle.cpu12_asm.specs.declared.faults.LineFault.TheVariants.{BadLine, UnknownName, Twice, Range}
use Rattle.cpu12_asm.specs.declared.statements.Action.TheVariants.{Nothing, Origin, Equate, Bytes, Words, Operate}
use Rattle.cpu12_asm.specs.declared.values.Behind.{Behind}
use Rattle.cpu12_asm.specs.{Expressions.sum_of, Statements.Statement, Statements.part_count}

-- a sum whose numbers are words and that lies from 0 to a limit
abbrev pub fits : ℕ → Sum → Bool
fits limit s = not s.large && (nat_le s.taken s.added && nat_le (s.added - s.taken) limit)

abbrev pub within : ℕ → Sum → Result ℕ LineFault
within limit s = if s.unknown then Err UnknownName else (if fits limit s then Ok (s.added - s.taken) else Err Range)

-- how many bytes a line gives
abbrev pub size_of : Action → List ℕ → ℕ
size_of Nothing text = 0
size_of Origin text = 0
size_of Equate text = 0
size_of Bytes text = part_count text
size_of Words text = 2 * part_count text
size_of (Operate encoding) text = length (encoding_bytes encoding)

-- what lines define: where the next stands, and the values of names
pub record Known : Type 0 where
  pub place : ℕ
  pub value : List ℕ → Option ℕ

-- what stands behind a line: the value of its name, and the next place
abbrev pub moved_to : ℕ → Result ℕ LineFault → Result Behind LineFault
moved_to place (Ok v) = Ok (record { value = place; place = v })
moved_to place (Err fault) = Err fault

abbrev pub equal_to : ℕ → Result ℕ LineFault → Result Behind LineFault
equal_to place (Ok v) = Ok (record { value = v; place = place })
equal_to place (Err fault) = Err fault

-- a name on a line has the place before it, but for EQU
abbrev pub behind_of : Known → Action → List ℕ → Result Behind LineFault
behind_of k Origin text = moved_to k.place (within 65535 (sum_of k.value text))
behind_of k Equate text = equal_to k.place (within 65535 (sum_of k.value text))
behind_of k a text = Ok (record { value = k.place; place = k.place + size_of a text })

abbrev pub with_value : (List ℕ → Option ℕ) → List ℕ → ℕ → List ℕ → Option ℕ
with_value value [] v = value
with_value value (b ∷ bs) v = λ name. if bytes_eq (b ∷ bs) name then Some v else value name

abbrev pub is_given : (List ℕ → Option ℕ) → List ℕ → Bool
is_given value [] = false
is_given value (b ∷ bs) = is_some (value (b ∷ bs))

abbrev pub with_line : Known → List ℕ → Result Behind LineFault → Result Known LineFault
with_line k name (Err fault) = Err fault
with_line k name (Ok next) = Ok (record { place = next.place; value = with_value k.value name next.value })

-- what is known behind one line more, or that line's fault
abbrev pub defined : Known → Option Statement → Result Known LineFault
defined k None = Err BadLine
defined k (Some s) = if is_given k.value s.name then Err Twice else with_line k s.name (behind_of k s.action s.operand)

-- What a source means: the values of its names, and then its bytes.
-- Beside the promise.
use Rattle.std.specs.Prelude.{ℕ, ◌≡◌, List, [], Option, None, Result, Ok, Err}
use Rattle.std.specs.Str.{str_to_ascii_uppercase}
use Rattle.cpu12_asm.specs.declared.{faults.LineFault.LineFault, items.AsmFault.AsmFault}
use Rattle.cpu12_asm.specs.{Faults.through, Lines.lines_of, Statements.statement_of, Values.Known, Values.defined}
use Rattle.cpu12_asm.specs.{Giving.Given, Giving.given, Bytes.Holds}

-- nothing is known before the first line, which stands at 0
abbrev pub start : Known
start = record { place = 0; value = λ name. None }

abbrev pub defined_by : Known → List ℕ → Result Known LineFault
defined_by k line = defined k (statement_of line)

abbrev pub value_known : Result Known AsmFault → Result (List ℕ → Option ℕ) AsmFault
value_known (Ok k) = Ok k.value
value_known (Err fault) = Err fault

-- the values of a source's names, or the first fault of a line by itself or against the lines before it
abbrev pub names_of : List ℕ → Result (List ℕ → Option ℕ) AsmFault
names_of text = value_known (through defined_by start 1 (lines_of text))

-- nothing is given before the first line
abbrev pub empty : Given
empty = record { place = 0; bytes = [] }

abbrev pub given_by_line : (List ℕ → Option ℕ) → Given → List ℕ → Result Given LineFault
given_by_line value g line = given value g (statement_of line)

-- the bytes that a source gives where names have values, or the first fault of a line
abbrev pub bytes_of : (List ℕ → Option ℕ) → List ℕ → Result Given AsmFault
bytes_of value text = through (given_by_line value) empty 1 (lines_of text)

abbrev pub with_names : List ℕ → Result (List ℕ → Option ℕ) AsmFault → Result Given AsmFault
with_names text (Ok value) = bytes_of value text
with_names text (Err fault) = Err fault

-- the bytes of a text in capitals: its names first, then its bytes
abbrev pub given_by_text : List ℕ → Result Given AsmFault
given_by_text text = with_names text (names_of text)

-- what a source gives, whatever the case of its letters, or its first fault
abbrev pub assembled : List ℕ → Result Given AsmFault
assembled source = given_by_text (str_to_ascii_uppercase source)

-- an image has just the bytes that a source gives
pub record Assembles (source : List ℕ) (image : List (ℕ × ℕ)) : Type 0 where
  pub given : Given
  pub assembled : assembled source ≡ Ok given
  pub holds : Holds image given.bytes

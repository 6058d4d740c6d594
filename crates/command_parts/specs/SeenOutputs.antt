-- What a command leaves to be written and put.
-- Beside the promise.
use Rattle.std.specs.Prelude.{◌≡◌, ℕ, List, None, Option, option_map, Result, Ok, Err}
use Rattle.fz_status.specs.declared.status.Status.{Status}
use Rattle.fz_status.specs.declared.status.Status.TheVariants as status
use Rattle.command_parts.specs.declared.output.Output.{Output}

-- the lines for out, and the word of the file to write with its bytes
pub record SeenOutput : Type 0 where
  pub lines : List (List ℕ)
  pub file : Option (ℕ × List ℕ)

-- an output that writes no file
abbrev pub only_lines : List (List ℕ) → SeenOutput
only_lines ls = record { lines = ls; file = None }

abbrev pub seen_output : Output → SeenOutput
seen_output w = record { lines = w.lines.items; file = option_map (λ p. (p.0, p.1.items)) w.file }

-- some output is made
abbrev pub HasOutput : (Result SeenOutput Status → Type 0) → Type 0
HasOutput makes = (output : SeenOutput) × makes (Ok output)

-- and not two of them
abbrev pub OutputsAreOne : (Result SeenOutput Status → Type 0) → Type 0
OutputsAreOne makes = (output other : SeenOutput) → makes (Ok output) → makes (Ok other) → output ≡ other

-- what makes an output makes no fault
abbrev pub OutputHasNoFault : (Result SeenOutput Status → Type 0) → Type 0
OutputHasNoFault makes = (output : SeenOutput) (s : Status) → makes (Ok output) → makes (Err s) → ⊥

-- the fault is one that comes of the contents, or want of memory
abbrev pub IsFaultOf : (Result SeenOutput Status → Type 0) → Status → Type 0
IsFaultOf makes status.Ok = ⊥
IsFaultOf makes status.Usage = ⊥
IsFaultOf makes (status.ReadFault p) = ⊥
IsFaultOf makes status.WriteFault = ⊥
IsFaultOf makes (status.TooLong p) = ⊥
IsFaultOf makes status.Memory = Unit {0}
IsFaultOf makes s = makes (Err s)

-- what is made, or one of its faults, or want of memory
abbrev pub IsResultOf : (Result SeenOutput Status → Type 0) → Result Output Status → Type 0
IsResultOf makes (Ok w) = makes (Ok (seen_output w))
IsResultOf makes (Err s) = IsFaultOf makes s

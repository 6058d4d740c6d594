-- What the commands that run firmware make of their files.
-- Beside the promise.
use Rattle.std.specs.Prelude.{◌≡◌, ◌<◌, ◌^◌, ℕ, List, Result, Ok, Err}
use Rattle.command_parts.specs.Readings.{Gives, GivesSome, IsSettled, Reading, made_of}
use Rattle.command_parts.specs.SeenOutputs.{SeenOutput, only_lines, seen_output}
use Rattle.command_parts.specs.declared.output.Output.{Output}
use Rattle.fz_status.specs.declared.status.Status.{Status}
use Rattle.fz_status.specs.declared.status.Status.TheVariants as status

-- an output of these lines alone, or want of memory
abbrev pub PutsLines : List (List ℕ) → Result Output Status → Type 0
PutsLines lines (Ok output) = seen_output output ≡ only_lines lines
PutsLines lines (Err s) = s ≡ status.Memory

-- Files make at most one output, and then no fault; and where they are accepted, the lines of the run of what they
-- give.
pub record IsSettledRun {B : Type 0} (reading : Reading B) (flags : ℕ) (gives : SeenOutput → Type 0)
    (lines : B → List (List ℕ)) : Type 0 where
  pub settled : IsSettled (made_of reading gives) ((flags < 2 ^ 8) × GivesSome reading)
  pub made : (b : B) → flags < 2 ^ 8 → Gives reading b → gives (only_lines (lines b))

-- The list of reads and writes after one more.
-- Beside the promise.
use Rattle.std.specs.Prelude.{ℕ, List, [], ◌∷◌, ◌++◌, map, Result, Ok, Err}
use Rattle.std.specs.String.{string_bytes}
use Rattle.fz_shelf.specs.declared.{log.Asked.Asked, errors.ReadError.ReadError, errors.WriteError.WriteError}
use Rattle.fz_shelf.specs.declared.log.Answer.TheVariants as answer
use Rattle.fz_shelf.specs.declared.errors.ReadError.TheVariants as error
use Rattle.fz_shelf.specs.declared.errors.WriteError.TheVariants as write
use Rattle.fz_shelf.specs.Told.{Log}

abbrev pub asked_of : List Asked → Log
asked_of = map (λ a. (string_bytes a.name, a.answer))

-- the list after a read: its entry comes last, and want of memory leaves none
abbrev pub asked_after : Log → List ℕ → Result Unit ReadError → Log
asked_after asked name (Ok u) = asked ++ (name, answer.Whole) ∷ []
asked_after asked name (Err error.Failed) = asked ++ (name, answer.Missed) ∷ []
asked_after asked name (Err error.TooLong) = asked ++ (name, answer.Long) ∷ []
asked_after asked name (Err error.Memory) = asked

-- the same after a write
abbrev pub asked_to_write : Log → List ℕ → Result Unit WriteError → Log
asked_to_write asked name (Ok u) = asked ++ (name, answer.Written) ∷ []
asked_to_write asked name (Err write.Failed) = asked ++ (name, answer.Unwritten) ∷ []
asked_to_write asked name (Err write.Memory) = asked

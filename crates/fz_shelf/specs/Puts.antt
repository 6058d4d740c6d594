-- What a put of a whole text says of its sink.
-- Beside the promise.
use Rattle.std.specs.Prelude.{◌≡◌, ℕ, List, length, Result, IsOk, OnOk}
use Rattle.fz_shelf.specs.{Faults.HasCause, Told.SinkTold, Told.gained, Told.GainedPart, Told.HasRoom}

-- a text is put into a sink: what it tells and its soundness, of the old one and of the new
pub record Puts {V E : Type 0} (told : V → SinkTold) (reliable : V → Type 0) (old new : V) (text : List ℕ)
    (result : Result Unit E) : Type 0 where
  pub whole : OnOk result ((told new).taken ≡ gained (told old).taken text)
  pub part : GainedPart (told old).taken (told new).taken text
  pub cause : HasCause (told old).faults (told new).faults result
  pub keeps : reliable old → reliable new
  pub steady : reliable old → HasRoom (told old).taken (length text) → IsOk result

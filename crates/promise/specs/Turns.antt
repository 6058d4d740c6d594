-- The turns of a mailbox firmware, read off the machine's run without posts.
-- Beside the promise.
use Rattle.std.specs.Prelude.{◌≢◌, ℕ, List, [], ◌∷◌}
use Rattle.cpu12_parts.specs.State.{State}
use Rattle.firmware_code.specs.declared.firmware.Firmware.{Firmware}
use Rattle.mailbox_runs.specs.{Answering.begun, Answering.ended, Runs.turn_form, Turns.Turn}
use Rattle.promise.specs.Bench.{EndsAfter}

-- Turns one after the other, from the state where the first begins: each that takes steps ends after just these, at the
-- next boundary where PC is at LOOP.
abbrev pub TurnsEnd : ℕ → Firmware → List (List ℕ) → List Turn → State → Type 0
TurnsEnd flags f samples [] s = Unit {0}
TurnsEnd flags f samples (t ∷ ts) s =
    (t.steps ≢ 0 → EndsAfter (turn_form flags f samples 0) t.steps (begun f samples t s))
    × TurnsEnd flags f samples ts (ended flags f samples t s)

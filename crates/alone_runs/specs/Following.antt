-- The rows of a firmware that stands alone, read off its runs without interrupts.
-- Beside the promise.
use Rattle.std.specs.Prelude.{◌≡◌, ℕ, suc, ◌+◌, ◌*◌, ◌<◌, ◌≤◌, Bool, true, false, List, [], ◌∷◌}
use Rattle.cpu12_isa.specs.Regions.{free_start, is_free, LeavesStack}
use Rattle.cpu12_parts.specs.State.{State}
use Rattle.cpu12_emul.specs.Simulation.{OnStackOnly, Same}
use Rattle.run_law.specs.Forms.{RowSeen, Rows, rows_from}
use Rattle.run_law.specs.Uninterrupted.{uninterrupted, counted, resumed_of, frames_of}
use Rattle.run_law.specs.Following.{AllComplete, AllWithin, RowsSimulate, last_uninterrupted, RunsFollow}
use Rattle.interrupt_plan.specs.{declared.Request.Request, Plans.IsGoodRequest, Plans.IsGood}
use Rattle.firmware_code.specs.declared.firmware.Firmware.{Firmware}
use Rattle.byte_scaling.specs.Widths.{places}
use Rattle.firmware_runs.specs.Ports.{given, answers_in}
use Rattle.alone_runs.specs.{Forms.with_writes, Rows.requests_of}
use Rattle.firmware_runs.specs.Facts.{FactsBeside, FactsAlone, WaitsAlone}

-- what the row of a sample is to be that is answered in n steps without interrupts: each request is taken at its moment
abbrev pub row_of_sample : ℕ → Firmware → List Request → ℕ → List ℕ → State → RowSeen (List ℕ)
row_of_sample flags f qs n bytes s = record {
  sample = bytes;
  answers = answers_in f (uninterrupted flags n s);
  instrs = counted flags n s;
  steps = n;
  resumed = resumed_of flags (λ r. r.moment) s qs n;
  frames = frames_of flags (λ r. r.moment) s qs n;
}

-- the rows of the samples from number k on, which take so many steps
abbrev pub rows_of_samples : ℕ → Firmware → List Request → ℕ → List ℕ → List (List ℕ) → State → List (RowSeen (List ℕ))
rows_of_samples flags f plan k [] samples s = []
rows_of_samples flags f plan k (n ∷ ns) [] s = []
rows_of_samples flags f plan k (n ∷ ns) (bytes ∷ rest) s =
    let first = given f.memory_map bytes s in
    let row = row_of_sample flags f (requests_of k plan) n bytes first in
    row ∷ rows_of_samples flags f plan (suc k) ns rest (uninterrupted flags n first)

-- before the first sample and after each, the state in which the firmware waits keeps this
abbrev pub AllWait : ℕ → Firmware → List ℕ → List (List ℕ) → State → Type 0
AllWait flags f [] samples s = WaitsAlone f s
AllWait flags f (n ∷ ns) [] s = WaitsAlone f s
AllWait flags f (n ∷ ns) (bytes ∷ rest) s =
    WaitsAlone f s × AllWait flags f ns rest (uninterrupted flags n (given f.memory_map bytes s))

-- the bytes that are read from outside stand below those that plans may write
pub record IsLow (f : Firmware) : Type 0 where
  pub ready : f.memory_map.sample_flag < free_start
  pub outputs : f.memory_map.outputs + places f.width * f.outputs ≤ free_start

-- the free bytes are open, the bytes below them are not, nor is the stack
pub record OpensFree (open_to : ℕ → Bool) : Type 0 where
  pub apart : LeavesStack open_to
  pub free : (at : ℕ) → is_free at ≡ true → open_to at ≡ true
  pub low : (at : ℕ) → at < free_start → open_to at ≡ false

-- a firmware whose bytes stand low, the byte from which open flags are taken, and what is open
pub record Alone : Type 0 where
  pub flags : ℕ
  pub firmware : Firmware
  pub low : IsLow firmware
  pub open_to : ℕ → Bool
  pub opens : OpensFree open_to

-- listed writes tell nothing, and leave nothing in the open bytes that is spoken of
abbrev pub Nothing : List (Request × Unit {0}) → State → Type 0
Nothing done s = Unit {0}

-- the run of samples under a plan from s, and the last state of the run without interrupts
abbrev pub rows_under : ℕ → Firmware → ℕ → List Request → List (List ℕ) → State → Rows (List ℕ) Request (Unit {0})
rows_under flags f most plan samples s =
    rows_from (with_writes flags f) most (λ k. requests_of k plan) 1 samples s

abbrev pub last_of : ℕ → Firmware → List ℕ → List (List ℕ) → State → State
last_of flags f ns samples s = last_uninterrupted (with_writes flags f) ns samples s

-- A run of samples under a plan follows the run without interrupts from s: it comes to the end of each, its rows are
-- those that are read off that run, each of its states simulates that run's, and so does the last.
pub record FollowsAlone (flags : ℕ) (f : Firmware) (most : ℕ) (plan : List Request) (ns : List ℕ)
    (samples : List (List ℕ)) (s : State) : Type 0 where
  pub arrived : (rows_under flags f most plan samples s).arrived ≡ true
  pub rows_are : (rows_under flags f most plan samples s).rows ≡ rows_of_samples flags f plan 1 ns samples s
  pub simulates :
      RowsSimulate OnStackOnly is_free (with_writes flags f) ns samples
      (rows_under flags f most plan samples s).states s
  pub last : Same is_free (rows_under flags f most plan samples s).state (last_of flags f ns samples s)

-- So does each run under a good plan, where the states of the run without interrupts keep the facts.
abbrev pub RunsFollowAlone : Type 0
RunsFollowAlone = (flags : ℕ) (f : Firmware) (most : ℕ) (plan : List Request) (ns : List ℕ) (samples : List (List ℕ))
    → (s : State) → IsLow f → IsGood plan → AllWithin most ns
    → AllComplete (FactsAlone flags f) (with_writes flags f) ns samples s
    → FollowsAlone flags f most plan ns samples s

-- Whatever more is open than the free bytes, a run under requests that list writes to these follows the run without
-- interrupts.
abbrev pub RunsFollowBeside : Type 0
RunsFollowBeside = (open_to : ℕ → Bool) (flags : ℕ) (f : Firmware) → OpensFree open_to → IsLow f
    → RunsFollow OnStackOnly open_to (with_writes flags f) (FactsBeside open_to flags f) IsGoodRequest Nothing

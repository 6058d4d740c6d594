-- The rows of a block's firmware whose interrupts run an accepted handler.
-- Beside the promise.
use Rattle.std.specs.Prelude.{◌≡◌, ℕ, ◌^◌, ◌<◌, ◌≤◌, true, List, All, map}
use Rattle.fuzzy_meaning.specs.{declared.block.Block.Block, Blocks.IsValid}
use Rattle.rule_layout.specs.Layouts.{IsWithinLimits}
use Rattle.cpu12_isa.specs.{declared.instr.Write.Write, Regions.is_free}
use Rattle.cpu12_parts.specs.{Parts.suspended, Parts.wav, State.State}
use Rattle.cpu12_emul.specs.Simulation.{AreOpen, OnStackOnly, Simulates}
use Rattle.run_law.specs.Following.{AllComplete, RowsSimulate}
use Rattle.cpu12_asm.specs.Bytes.{byte_at}
use Rattle.handler_check.specs.{Images.IsHandler, Running.HasImage, Running.CanBegin, Running.IsCodeTake}
use Rattle.interrupt_plan.specs.{declared.Request.Request, Plans.IsGood}
use Rattle.firmware_code.specs.declared.firmware.Firmware.{Firmware}
use Rattle.alone_code.specs.Firmwares.{IsFirmwareOf}
use Rattle.eval_code.specs.Firing.{AreInputBytes}
use Rattle.run_forms.specs.Rows.{tellings}
use Rattle.firmware_runs.specs.Facts.{FactsBeside}
use Rattle.alone_runs.specs.Rows.{first_state, firmware_rows}
use Rattle.handled_runs.specs.{declared.back.HandlerEnd.HandlerEnd, Open.is_open_to_code}
use Rattle.handled_runs.specs.Forms.{with_code, handled_rows, handled_seen, steps_of, HandledSeen}

-- The RTI of an interrupt's handler was done, as the last of at most so many steps. No run is so by its definition,
-- which cuts all code off at the one limit.
pub record CameBack (most : ℕ) (told : Request × HandlerEnd) : Type 0 where
  pub done : told.1.done ≡ true
  pub few : told.1.steps ≤ most

-- so it is with each interrupt of a sample
abbrev pub AllCameBack : ℕ → List (Request × HandlerEnd) → Type 0
AllCameBack most told = All (CameBack most) told

-- the numbers of steps that were told of requests, added up
abbrev pub steps_told : List (Request × HandlerEnd) → ℕ
steps_told told = steps_of (tellings told)

-- The run comes to the end of each sample, its rows are those of the run of that firmware under that plan in which
-- handlers do the listed writes alone, each of its states simulates that of the run without interrupts, which answers
-- all samples in so many steps each, and holds the handler's bytes; and each interrupt comes back by its handler's
-- RTI, after at most as many steps as the handler has instructions on a path.
pub record AnswersHandled (f : Firmware) (handler : List (ℕ × ℕ)) (most flags : ℕ) (samples : List (List ℕ))
    (plan : List Request) : Type 0 where
  pub arrived : (handled_rows f handler samples plan flags).arrived ≡ true
  pub rows_are : (handled_rows f handler samples plan flags).rows ≡ (firmware_rows f samples plan flags).rows
  pub ns : List ℕ
  pub complete :
      AllComplete (FactsBeside is_open_to_code flags f) (with_code flags f) ns samples (first_state f flags)
  pub simulates : RowsSimulate OnStackOnly is_open_to_code (with_code flags f) ns samples
      (handled_rows f handler samples plan flags).states (first_state f flags)
  pub code : All (λ ws. All (λ w. HasImage handler w.mem) ws) (handled_rows f handler samples plan flags).states
  pub back : All (AllCameBack most) (handled_rows f handler samples plan flags).told

-- Rows with their handlers' steps: the rows are those of listed writes, and the run is as above.
pub record AreListedRows (f : Firmware) (handler : List (ℕ × ℕ)) (most flags : ℕ) (samples : List (List ℕ))
    (plan : List Request) (rows : List HandledSeen) : Type 0 where
  pub listed : map (λ r. r.row) rows ≡ (firmware_rows f samples plan flags).rows
  pub run : AnswersHandled f handler most flags samples plan
  pub steps : map (λ r. r.handler) rows ≡ map steps_told (handled_rows f handler samples plan flags).told

-- so are they where the firmware is one of a valid block
abbrev pub HandlesItsBlock : Firmware → List (ℕ × ℕ) → ℕ → ℕ → List (List ℕ) → List Request → List HandledSeen → Type 0
HandlesItsBlock f handler most flags samples plan rows =
    (b : Block) → IsValid b → IsWithinLimits b → IsFirmwareOf b f → All (AreInputBytes b) samples
    → AreListedRows f handler most flags samples plan rows

-- So run the interrupts of an accepted handler under a good plan.
abbrev pub HandledAnswers : Type 0
HandledAnswers =
    (f : Firmware) (handler : List (ℕ × ℕ)) (most flags : ℕ) (samples : List (List ℕ)) (plan : List Request)
    → flags < 2 ^ 8 → IsGood plan → IsHandler handler most
    → HandlesItsBlock f handler most flags samples plan (handled_seen f handler samples plan flags)

-- The states at boundaries of such a run are states from which the handler's run is a take's: where it simulates a
-- state of the run without interrupts and holds the handler's bytes, the handler can begin, and its interrupt is one
-- that does some writes to free bytes.
abbrev pub StatesRunAsTakes : Type 0
StatesRunAsTakes =
    (f : Firmware) (handler : List (ℕ × ℕ)) (most flags : ℕ) (ws : List Write) (w s : State) → IsHandler handler most
    → FactsBeside is_open_to_code flags f s → Simulates OnStackOnly is_open_to_code w s → HasImage handler w.mem
    → AreOpen is_free ws → CanBegin (suspended wav w) × IsCodeTake flags most ws w

-- Handlers with the same bytes give the same rows.
abbrev pub HandlersRunAlike : Type 0
HandlersRunAlike = (f : Firmware) (handler other : List (ℕ × ℕ)) (samples : List (List ℕ)) (plan : List Request)
    (flags : ℕ) → ((at : ℕ) → byte_at handler at ≡ byte_at other at)
    → handled_seen f handler samples plan flags ≡ handled_seen f other samples plan flags

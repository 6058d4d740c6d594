-- The rows of a block's firmware with watched tables, by what it answers without interrupts.
-- Beside the promise.
use Rattle.std.specs.Prelude.{◌≡◌, ℕ, ◌-◌, ◌^◌, ◌<◌, ◌≤◌, List, [], ◌∷◌, All, length, slice_index}
use Rattle.fuzzy_meaning.specs.{declared.block.Block.Block, Blocks.IsValid}
use Rattle.rule_layout.specs.Layouts.{IsWithinLimits}
use Rattle.cpu12_isa.specs.{Agreement.AgreeFrom, Regions.is_free, Regions.stack_end}
use Rattle.cpu12_parts.specs.State.{State}
use Rattle.cpu12_emul.specs.{Image.image_memory, Simulation.OnStackOnly}
use Rattle.interrupt_plan.specs.declared.{Request.Request, upsets.Upset.Upset}
use Rattle.interrupt_plan.specs.{Plans.IsGood, Upsets.AreGoodUpsets}
use Rattle.firmware_code.specs.declared.firmware.Firmware.{Firmware}
use Rattle.eval_code.specs.Firing.{AreInputBytes}
use Rattle.watched_code.specs.Watched.{Watched, changed, restored, watched_answer, watched_fault, IsWatchedFirmwareOf}
use Rattle.run_law.specs.{Uninterrupted.uninterrupted, Following.AllComplete, Following.AllFollow}
use Rattle.firmware_runs.specs.Facts.{WaitsAlone}
use Rattle.alone_runs.specs.{Following.Nothing, Rows.requests_of, Rows.first_state}
use Rattle.watched_runs.specs.{Samples.with_upsets, Forms.given_changed, Forms.watched_form, Forms.FactsWatched}
use Rattle.watched_runs.specs.Rows.{FaultSeen, upset_rows, faults_of, rows_of_watched}

-- A row is a sample's: its answers are the block's after those before, but where a byte is upset the defaults, and
-- FAULT says which; and it has no more instructions and steps than the firmware's bounds.
pub record IsWatchedRow (b : Block) (f : Firmware) (before : ℕ → ℕ) (x : Watched) (r : FaultSeen) : Type 0 where
  pub sample : r.row.sample ≡ x.bytes
  pub values : (o : ℕ) → 1 ≤ o → o ≤ length b.outputs
      → slice_index r.row.answers (o - 1) ≡ watched_answer b (image_memory f.image.bytes) x o (before o)
  pub count : length r.row.answers ≡ length b.outputs
  pub fault : r.fault ≡ watched_fault (image_memory f.image.bytes) x
  pub instructions : r.row.instrs ≤ f.instr_bound
  pub steps : r.row.steps ≤ f.step_bound

-- those of a list of samples, each after the one before
abbrev pub AreWatchedRows : Block → Firmware → (ℕ → ℕ) → List Watched → List FaultSeen → Type 0
AreWatchedRows b f before [] [] = Unit {0}
AreWatchedRows b f before [] (r ∷ rs) = ⊥
AreWatchedRows b f before (x ∷ xs) [] = ⊥
AreWatchedRows b f before (x ∷ xs) (r ∷ rs) =
    IsWatchedRow b f before x r
    × AreWatchedRows b f (λ o. watched_answer b (image_memory f.image.bytes) x o (before o)) xs rs

-- While a sample is answered without interrupts memory from $2000 on is the image with the sample's byte changed, at
-- each boundary up to the end.
abbrev pub HoldsChange : ℕ → Firmware → ℕ → Watched → State → Type 0
HoldsChange flags f n x s =
    (j : ℕ) → j ≤ n → AgreeFrom stack_end (changed x.change (image_memory f.image.bytes))
    (uninterrupted flags j (given_changed f.memory_map x s)).mem

-- So it is for all samples; and before the first and after each the firmware waits over the image as it was made.
abbrev pub AllHoldChanges : ℕ → Firmware → List ℕ → List Watched → State → Type 0
AllHoldChanges flags f [] xs s = WaitsAlone f s
AllHoldChanges flags f (n ∷ ns) [] s = WaitsAlone f s
AllHoldChanges flags f (n ∷ ns) (x ∷ xs) s =
    WaitsAlone f s × HoldsChange flags f n x s × AllHoldChanges flags f ns xs
    (restored (image_memory f.image.bytes) x.change (uninterrupted flags n (given_changed f.memory_map x s)))

-- What a block's firmware gives under a plan and upsets: rows that are the samples'; the run without interrupts from
-- the first arrival, which answers all samples in so many steps each, and whose states keep the facts, with each
-- sample's byte changed as long as it is answered; the rows are read off it, with each request at its moment; and the
-- run under the plan follows it.
pub record AnswersUnderUpsets (b : Block) (f : Firmware) (flags : ℕ) (samples : List (List ℕ)) (plan : List Request)
    (upsets : List Upset) (rows : List FaultSeen) : Type 0 where
  pub answers : AreWatchedRows b f (λ o. 0) (with_upsets upsets samples) rows
  pub steps : List ℕ
  pub complete :
      AllComplete (FactsWatched flags) (watched_form flags f) steps (with_upsets upsets samples) (first_state f flags)
  pub changes : AllHoldChanges flags f steps (with_upsets upsets samples) (first_state f flags)
  pub rows_are :
      rows ≡ rows_of_watched flags f plan 1 steps (with_upsets upsets samples) (first_state f flags)
  pub follows : AllFollow OnStackOnly is_free (watched_form flags f) Nothing [] (λ k. requests_of k plan) 1 steps
      (with_upsets upsets samples) (first_state f flags) (upset_rows f samples plan upsets flags)

-- so are rows, where the firmware is one of a valid block with watched tables
abbrev pub AnswersItsSamples : Firmware → ℕ → List (List ℕ) → List Request → List Upset → List FaultSeen → Type 0
AnswersItsSamples f flags samples plan upsets rows =
    (b : Block) → IsValid b → IsWithinLimits b → IsWatchedFirmwareOf b f → All (AreInputBytes b) samples
    → AnswersUnderUpsets b f flags samples plan upsets rows

-- The firmware of a block with watched tables answers every list of samples so under every good plan and all good
-- upsets.
abbrev pub AnswersUnderAllUpsets : Type 0
AnswersUnderAllUpsets =
    (f : Firmware) (flags : ℕ) (samples : List (List ℕ)) (plan : List Request) (upsets : List Upset)
    → flags < 2 ^ 8 → IsGood plan → AreGoodUpsets f.image.bytes upsets
    → AnswersItsSamples f flags samples plan upsets (faults_of f (upset_rows f samples plan upsets flags))

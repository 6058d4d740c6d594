-- A slow firmware whose interrupts serve levels, as a sound form.
-- Beside the promise.
use Rattle.std.specs.Prelude.{ℕ, Option, None, Some, List, [], ◌∷◌, All, length}
use Rattle.fuzzy_meaning.specs.declared.block.Block.{Block}
use Rattle.cpu12_isa.specs.{Agreement.WritesAgree, Fits.AreBytes}
use Rattle.cpu12_parts.specs.State.{State}
use Rattle.cpu12_emul.specs.Simulation.{OnStackOrNone}
use Rattle.run_law.specs.Soundness.{Sound, WritesAreQuiet}
use Rattle.interrupt_plan.specs.{declared.levels.Level.Level, Levels.IsGoodLevel}
use Rattle.byte_scaling.specs.declared.width.Width.TheVariants.{Byte}
use Rattle.eval_code.specs.Evaluation.{HasAnswers}
use Rattle.firmware_code.specs.Uninterrupted.{IsAnswerOf}
use Rattle.two_level_code.specs.{declared.two.Two.Two, Images.fast_most, Images.joint_memory}
use Rattle.two_level_code.specs.{Images.slow_alone, MemoryMaps.fast_map, MemoryMaps.is_open_to_fast}
use Rattle.firmware_runs.specs.Facts.{FactsBeside}
use Rattle.alone_runs.specs.Rows.{bytes_of}
use Rattle.two_level_runs.specs.{Runs.FastSeen, Outer.HasFastCode, Rows.two_level_form}
use Rattle.two_level_runs.specs.Answering.{answer_of_fast, outputs_after}

-- each fast run answered its sample after the run before it
abbrev pub IsAnswerTold : Block → Two → List (List ℕ) → (ℕ → ℕ) → Option FastSeen → Type 0
IsAnswerTold b two fast before None = Unit {0}
IsAnswerTold b two fast before (Some f) =
    IsAnswerOf Byte b (fast_most two.fast.instr_bound) before (bytes_of fast f.number) (answer_of_fast f)

abbrev pub AreAnswersTold : Block → Two → List (List ℕ) → List (Level × Option FastSeen) → Type 0
AreAnswersTold b two fast [] = Unit {0}
AreAnswersTold b two fast (t ∷ done) =
    IsAnswerTold b two fast (outputs_after b fast done) t.1 × AreAnswersTold b two fast done

-- After good levels memory is one of bytes, the fast code stands in it with the last answers, and each fast run
-- answered its sample.
pub record FastStands (b : Block) (two : Two) (fast : List (List ℕ))
    (done : List (Level × Option FastSeen)) (w : State) : Type 0 where
  pub bytes : AreBytes w.mem
  pub code : HasFastCode (joint_memory two) w.mem
  pub outputs : HasAnswers fast_map b Byte (outputs_after b fast done) w.mem
  pub answers : AreAnswersTold b two fast done
  pub good : All (λ t. IsGoodLevel (length fast) t.0) done

-- both blocks, the samples of the fast one, and flags, where this form is sound
pub record Levels : Type 0 where
  pub two : Two
  pub slow : Block
  pub fast : Block
  pub flags : ℕ
  pub samples : List (List ℕ)
  pub sound : WritesAgree → WritesAreQuiet
      → Sound OnStackOrNone is_open_to_fast (two_level_form flags two samples)
      (FactsBeside is_open_to_fast flags (slow_alone slow two)) (IsGoodLevel (length samples))
      (FastStands fast two samples)

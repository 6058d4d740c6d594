-- What a call of the program leaves, over a shelf and sinks in memory.
-- Beside the promise.
use Rattle.std.specs.Prelude.{◌≡◌, ℕ, List, [], map, Some}
use Rattle.std.specs.Borrow.{Bor}
use Rattle.fz_status.specs.{Codes.code_of, Errors.Complains, Errors.error_line_of, Words.Text}
use Rattle.fz_status.specs.declared.status.Status.{Status}
use Rattle.fz_status.specs.declared.status.Status.TheVariants as status
use Rattle.fz_top.specs.Runs.{Runs}
use Rattle.fz_shelf.specs.Told.{ShelfTold, SinkTold, world}
use Rattle.test_program_calls.specs.{Lefts.IsFirstDifference, Lefts.Leaves, declared.difference.Difference.Difference}
use Rattle.test_program_calls.specs.declared.difference.Difference.TheVariants as difference
use Rattle.test_program_calls.specs.declared.left.Left.{Left}

abbrev pub words_in : List (Bor Text) → List Text
words_in = map (λ word. word.now)

-- what a sink tells that took nothing
abbrev pub nothing_taken : SinkTold
nothing_taken = record { taken = Some (record { bytes = []; room = 1048576 }); faults = 0 }

-- the program, called with these words, a shelf that tells this, and sinks that took nothing, answered this status
pub record Called (words : List Text) (old new : ShelfTold) (out err : SinkTold) (number : ℕ) : Type 0 where
  pub answer : Status
  pub code : number ≡ code_of answer
  pub runs : Runs words (world old nothing_taken) (world new out) answer
  pub quiet : answer ≡ status.Ok → err ≡ nothing_taken
  pub line : (answer ≡ status.Ok → ⊥) → Complains (error_line_of words answer) nothing_taken err

-- a call answered this number of a status
pub record AnswersCode (words : List Text) (old new : ShelfTold) (number : ℕ) : Type 0 where
  pub out : SinkTold
  pub err : SinkTold
  pub called : Called words old new out err number

-- a call left this
pub record CallLeaves (words : List Text) (old new : ShelfTold) (left : Left) : Type 0 where
  pub number : ℕ
  pub out : SinkTold
  pub err : SinkTold
  pub called : Called words old new out err number
  pub leaves : Leaves number out err left

-- the same, whatever the shelf tells then
abbrev pub LeavesBehind : List Text → ShelfTold → Left → Type 0
LeavesBehind words old left = (new : ShelfTold) × CallLeaves words old new left

-- a call left something else
pub record LeavesAnother (words : List Text) (old new : ShelfTold) (left : Left) (found : Difference) : Type 0 where
  pub number : ℕ
  pub out : SinkTold
  pub err : SinkTold
  pub called : Called words old new out err number
  pub differs : IsFirstDifference number out err left found

-- the same, or memory was wanted
abbrev pub CallDiffers : List Text → ShelfTold → ShelfTold → Left → Difference → Type 0
CallDiffers words old new left difference.Memory = Unit {0}
CallDiffers words old new left d = LeavesAnother words old new left d

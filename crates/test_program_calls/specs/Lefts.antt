-- What a call is to leave, and how what it left differs.
-- Beside the promise.
use Rattle.std.specs.Prelude.{◌≡◌, ◌≢◌, ℕ, List, [], codes, Some, option_map}
use Rattle.fz_shelf.specs.Told.{SinkTold}
use Rattle.test_program_calls.specs.declared.difference.Difference.{Difference}
use Rattle.test_program_calls.specs.declared.difference.Difference.TheVariants as difference
use Rattle.test_program_calls.specs.declared.left.Left.{Left}
use Rattle.test_program_calls.specs.declared.left.Left.TheVariants as left

abbrev pub code_left : Left → ℕ
code_left (left.Lines lines) = 0
code_left (left.Refused code line) = code
code_left (left.Broken part) = 3

abbrev pub out_left : Left → List ℕ
out_left (left.Lines lines) = lines.now
out_left (left.Refused code line) = []
out_left (left.Broken part) = part.now

abbrev pub err_left : Left → List ℕ
err_left (left.Lines lines) = []
err_left (left.Refused code line) = line.now
err_left (left.Broken part) = codes "write fault\n"

-- a sink took these bytes in all
abbrev pub Took : SinkTold → List ℕ → Type 0
Took told bytes = option_map (λ t. t.bytes) told.taken ≡ Some bytes

-- a call with this status left this, as out and err tell
pub record Leaves (number : ℕ) (out err : SinkTold) (left : Left) : Type 0 where
  pub code : number ≡ code_left left
  pub output : Took out (out_left left)
  pub complaint : Took err (err_left left)

-- the first difference, on err, on out or in the status, or memory was wanted
abbrev pub IsFirstDifference : ℕ → SinkTold → SinkTold → Left → Difference → Type 0
IsFirstDifference code out err left (difference.Err text) = Took err (err_left left) → ⊥
IsFirstDifference code out err left (difference.Out text) = Took err (err_left left) × (Took out (out_left left) → ⊥)
IsFirstDifference code out err left (difference.Status n) =
    Took err (err_left left) × Took out (out_left left) × (n ≡ code) × (n ≢ code_left left)
IsFirstDifference code out err left difference.Memory = Unit {0}
IsFirstDifference code out err left d = ⊥

-- What is shown of runs has their rows and what was told.
-- Beside the promise.
use Rattle.std.specs.Prelude.{◌≡◌, ℕ, List, map}
use Rattle.cpu12_parts.specs.State.{State}
use Rattle.run_law.specs.Forms.{Form, Rows, rows_from}
use Rattle.run_forms.specs.Rows.{shown, tellings}

-- where each row is shown alone, or what was told alone, all of it is shown
pub record AreShown {S A B : Type 0} (all : Rows S A B) : Type 0 where
  pub rows : shown (λ row told. row) all ≡ all.rows
  pub told : shown (λ row told. told) all ≡ map tellings all.told

-- so is it of the runs of any form
abbrev pub RowsAreShown : Type 0 → Type 0 → Type 0 → Type 0
RowsAreShown S A B =
    (form : Form S A B) (most : ℕ) (asks : ℕ → List A) (k : ℕ) (samples : List S) (s : State)
    → AreShown (rows_from form most asks k samples s)

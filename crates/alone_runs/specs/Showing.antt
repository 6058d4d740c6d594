-- What the row of a sample shows.
-- Beside the promise.
use Rattle.std.specs.Prelude.{◌≡◌, ℕ, Some, slice_get}
use Rattle.cpu12_parts.specs.State.{State}
use Rattle.run_forms.specs.{declared.sample.Counts.Counts, Forms.Harness, Rest.counted_at, Rest.shown_by}

-- the row of sample k shows what was counted of its run, which ended in a state
abbrev pub ShowsSample : {A U R S B T : Type 0} → Harness A U R S B T → ℕ → Counts U → State → R → Type 0
ShowsSample {A} {U} {R} {S} {B} {T} h k counts s row = (x : S) → slice_get h.samples k ≡ Some x
    → h.seen row ≡ shown_by h.shows h.parts.answers (counted_at h.notes counts s) x

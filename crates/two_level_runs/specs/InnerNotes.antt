-- What is noted of the inner requests of a fast run.
-- Beside the promise.
use Rattle.std.specs.Prelude.{ℕ, List, [], map}
use Rattle.arrayvec.specs.ArrayVec.{ArrayVec}
use Rattle.cpu12_emul.specs.Take.{FrameSeen, frame_seen}
use Rattle.run_forms.specs.Forms.{SeenNotes, Harness}
use Rattle.two_level_runs.specs.{declared.fast_code.InnerFrame.InnerFrame, Runs.fast_parts}

-- a frame with its boundary, as it is seen
abbrev pub inner_seen : InnerFrame → ℕ × FrameSeen
inner_seen f = (f.boundary, frame_seen f.frame)

abbrev pub inner_frames_seen : List InnerFrame → List (ℕ × FrameSeen)
inner_frames_seen fs = map inner_seen fs

-- the frames are noted, and nothing is told
abbrev pub inner_notes : SeenNotes (ArrayVec InnerFrame) (Unit {0})
inner_notes = record { frames = λ v. inner_frames_seen v.items; told = λ v. map (λ f. tt) v.items }

-- the run of the fast code alone, which has no row
abbrev pub fast_harness : ℕ → ℕ
    → Harness ℕ (ArrayVec InnerFrame) (Unit {0}) (Unit {0}) (Unit {0}) (Unit {0})
fast_harness outputs sp = record {
  samples = [];
  parts = fast_parts outputs sp;
  notes = inner_notes;
  shows = λ row told. tt;
  seen = λ r. tt;
}

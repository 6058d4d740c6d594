-- A run with boundaries counted from a later one.
-- Beside the promise.
use Rattle.std.specs.Prelude.{◌≡◌, ℕ, ◌+◌, ◌-◌, Bool, List, map}
use Rattle.cpu12_parts.specs.State.{State}
use Rattle.cpu12_emul.specs.Take.{FrameSeen}
use Rattle.run_law.specs.Forms.{Form, Ran, run_from}

-- a form whose boundaries are counted from boundary g
abbrev pub counted_from : {S A B : Type 0} → ℕ → Form S A B → Form S A B
counted_from g f = record {
  flags = f.flags;
  give = f.give;
  leave = f.leave;
  ends = λ m s. f.ends (g + m) s;
  answers = f.answers;
  moment = λ q. f.moment q - g;
  handle = f.handle;
  tells = f.tells;
}

-- frames whose boundaries were counted from boundary g, and a run with such
abbrev pub frames_from : ℕ → List (ℕ × FrameSeen) → List (ℕ × FrameSeen)
frames_from g frames = map (λ x. (g + x.0, x.1)) frames

abbrev pub ran_from : {A B : Type 0} → ℕ → Ran A B → Ran A B
ran_from g r = record {
  arrived = r.arrived;
  state = r.state;
  states = r.states;
  instrs = r.instrs;
  steps = r.steps;
  resumed = r.resumed;
  frames = frames_from g r.frames;
  told = r.told;
  left = r.left;
}

-- The run from boundary g + m on is that from boundary m on with boundaries counted from g.
abbrev pub RunsCountOn : Type 0 → Type 0 → Type 0 → Type 0
RunsCountOn S A B = (f : Form S A B) (g n m : ℕ) (inside : Bool) (qs : List A) (s : State)
    → run_from f n (g + m) inside qs s ≡ ran_from g (run_from (counted_from g f) n m inside qs s)

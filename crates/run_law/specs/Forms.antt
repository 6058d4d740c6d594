-- A form of firmware with its handler, and its run under requests, boundary by boundary.
-- Reached by the promise.
use Rattle.std.specs.Prelude.{ℕ, zero, suc, ◌+◌, ◌&&◌, not, nat_le, Bool, true, false, if◌then◌else◌, Result, Ok, Err}
use Rattle.std.specs.Prelude.{List, [], ◌∷◌, ◌++◌}
use Rattle.cpu12_parts.specs.{State.State, Parts.suspended, Parts.wav}
use Rattle.cpu12_emul.specs.declared.ends.Stepped.{Stepped}
use Rattle.cpu12_emul.specs.{Step.Next, Step.next_of, Step.is_part, Take.FrameSeen, Take.frame_of, Take.may_interrupt}

-- A firmware that is given samples S and serves requests A, each of which tells a B: the byte from which open flags
-- are taken; how a sample is given, and taken away again at its end; when it ends, by the moment and the state; what
-- it answers there; the least boundary of a request; and what its handler does and tells, from a state in which no
-- sums run, up to the return.
pub record Form (S A B : Type 0) : Type 0 where
  pub flags : ℕ
  pub give : S → State → State
  pub leave : S → State → State
  pub ends : ℕ → State → Bool
  pub answers : State → List ℕ
  pub moment : A → ℕ
  pub handle : A → State → State
  pub tells : A → State → B

-- an interrupt: sums that run go on the stack first
abbrev pub taken : {S A B : Type 0} → Form S A B → A → State → State
taken f a s = f.handle a (suspended wav s)

abbrev pub told : {S A B : Type 0} → Form S A B → A → State → A × B
told f a s = (a, f.tells a (suspended wav s))

abbrev pub one_if : Bool → ℕ
one_if true = 1
one_if false = 0

abbrev pub is_empty : {C : Type 0} → List C → Bool
is_empty [] = true
is_empty (x ∷ xs) = false

-- What is taken at a boundary: the state after it, the frames with their boundary, the requests with what they tell,
-- and those that are left.
pub record Taking (A B : Type 0) : Type 0 where
  pub state : State
  pub frames : List (ℕ × FrameSeen)
  pub told : List (A × B)
  pub left : List A

abbrev pub put_take : {A B : Type 0} → ℕ × FrameSeen → A × B → Taking A B → Taking A B
put_take f b t = record { state = t.state; frames = f ∷ t.frames; told = b ∷ t.told; left = t.left }

-- The requests that are due at boundary m are taken in their order, one after the other, as long as I is 0.
unfoldable pub takes : {S A B : Type 0} → Form S A B → ℕ → List A → State → Taking A B
takes f m [] s = record { state = s; frames = []; told = []; left = [] }
takes f m (q ∷ qs) s =
    if may_interrupt s && nat_le (f.moment q) m then put_take (m, frame_of s) (told f q s) (takes f m qs (taken f q s))
    else record { state = s; frames = []; told = []; left = q ∷ qs }

-- A run to its end: whether it arrived there; the last state; the state at each boundary, after what was taken there;
-- how many steps were plain or last parts; how many there were; at how many boundaries an interrupt was taken inside
-- an instruction; each frame with its boundary; what was told; and the requests that are left.
pub record Ran (A B : Type 0) : Type 0 where
  pub arrived : Bool
  pub state : State
  pub states : List State
  pub instrs : ℕ
  pub steps : ℕ
  pub resumed : ℕ
  pub frames : List (ℕ × FrameSeen)
  pub told : List (A × B)
  pub left : List A

-- no step more
abbrev pub ended : {A B : Type 0} → Bool → List A → State → Ran A B
ended arrived qs s = record {
  arrived = arrived;
  state = s;
  states = s ∷ [];
  instrs = 0;
  steps = 0;
  resumed = 0;
  frames = [];
  told = [];
  left = qs;
}

-- a boundary inside an instruction, or not, at which these were taken
abbrev pub resumes : {A B : Type 0} → Bool → Taking A B → ℕ
resumes inside b = one_if (inside && not (is_empty b.frames))

-- a boundary and a step before the rest
abbrev pub before_rest : {A B : Type 0} → Bool → Taking A B → Stepped → Ran A B → Ran A B
before_rest inside b kind r = record {
  arrived = r.arrived;
  state = r.state;
  states = b.state ∷ r.states;
  instrs = one_if (not (is_part kind)) + r.instrs;
  steps = suc r.steps;
  resumed = resumes inside b + r.resumed;
  frames = b.frames ++ r.frames;
  told = b.told ++ r.told;
  left = r.left;
}

-- a boundary after which no step is defined
abbrev pub stuck : {A B : Type 0} → Bool → Taking A B → Ran A B
stuck inside b = record {
  arrived = false;
  state = b.state;
  states = b.state ∷ [];
  instrs = 0;
  steps = 0;
  resumed = resumes inside b;
  frames = b.frames;
  told = b.told;
  left = b.left;
}

abbrev pub then_rest : {A B : Type 0} → Bool → Taking A B → (Bool → State → Ran A B) → Result Next ℕ → Ran A B
then_rest inside b rest (Ok next) = before_rest inside b next.kind (rest (is_part next.kind) next.state)
then_rest inside b rest (Err byte) = stuck inside b

-- From boundary m on, with these requests left, where the step before was a part and not the last or it was not: at
-- most n steps to the end. The run ends where it stands if no step is defined there, or if n steps are done.
unfoldable pub run_from : {S A B : Type 0} → Form S A B → ℕ → ℕ → Bool → List A → State → Ran A B
run_from f zero m inside qs s = ended (f.ends m s) qs s
run_from f (suc n) m inside qs s =
    if f.ends m s then ended true qs s
    else (let b = takes f m qs s in then_rest inside b
    (λ i t. run_from f n (suc m) i b.left t) (next_of f.flags b.state))

-- a row, as it is seen
pub record RowSeen (S : Type 0) : Type 0 where
  pub sample : S
  pub answers : List ℕ
  pub instrs : ℕ
  pub steps : ℕ
  pub resumed : ℕ
  pub frames : List (ℕ × FrameSeen)

abbrev pub row_of : {S A B : Type 0} → Form S A B → S → Ran A B → RowSeen S
row_of f x r = record {
  sample = x;
  answers = f.answers r.state;
  instrs = r.instrs;
  steps = r.steps;
  resumed = r.resumed;
  frames = r.frames;
}

-- the runs of a list of samples: of each the row, its states at its boundaries and what was told; whether all arrived;
-- and the last state
pub record Rows (S A B : Type 0) : Type 0 where
  pub rows : List (RowSeen S)
  pub states : List (List State)
  pub told : List (List (A × B))
  pub arrived : Bool
  pub state : State

abbrev pub no_rows : {S A B : Type 0} → State → Rows S A B
no_rows s = record { rows = []; states = []; told = []; arrived = true; state = s }

abbrev pub put_row : {S A B : Type 0} → RowSeen S → Ran A B → Rows S A B → Rows S A B
put_row row r rs = record {
  rows = row ∷ rs.rows;
  states = r.states ∷ rs.states;
  told = r.told ∷ rs.told;
  arrived = r.arrived && rs.arrived;
  state = rs.state;
}

-- the samples from number k on, each of at most so many steps, where `asks` gives the requests of a sample
unfoldable pub rows_from : {S A B : Type 0} → Form S A B → ℕ → (ℕ → List A) → ℕ → List S → State → Rows S A B
rows_from f most asks k [] s = no_rows s
rows_from f most asks k (x ∷ rest) s =
    let r = run_from f most 0 false (asks k) (f.give x s) in
    put_row (row_of f x r) r (rows_from f most asks (suc k) rest (f.leave x r.state))

-- The law on runs: a run under requests follows the run without interrupts, for a sample and for a list of samples.
-- Beside the promise.
use Rattle.std.specs.Prelude.{◌≡◌, ℕ, suc, ◌+◌, ◌<◌, ◌≤◌, Bool, true, false, List, [], ◌∷◌, All, length}
use Rattle.std.specs.Prelude.{map}
use Rattle.cpu12_parts.specs.State.{State}
use Rattle.run_law.specs.Forms.{Form, Ran, run_from, RowSeen, Rows, rows_from}
use Rattle.run_law.specs.Uninterrupted.{uninterrupted, counted, is_inside, taken_at, taken_before, left_from}
use Rattle.run_law.specs.Uninterrupted.{resumed_of, frames_of}
use Rattle.run_law.specs.Soundness.{Before, Begins, AllSimulate, AllGood, Ascend, GivenLeavesOwn}
use Rattle.cpu12_emul.specs.Simulation.{Same, Marks}

-- those of a list before others, the last first
abbrev pub onto : {C : Type 0} → List C → List C → List C
onto [] done = done
onto (x ∷ xs) done = onto xs (x ∷ done)

-- the requests of what was told
abbrev pub asked : {A B : Type 0} → List (A × B) → List A
asked ts = map (λ t. t.0) ts

-- What a request told, after these requests were done, where the run without interrupts is in s: its handler told it of
-- a state in which it began there.
pub record IsToldIn {S A B : Type 0} (open_to : ℕ → Bool) (f : Form S A B) (Own : List (A × B) → State → Type 0)
    (s : State) (done : List (A × B)) (t : A × B) : Type 0 where
  pub begun : State
  pub begins : Begins open_to begun s
  pub own : Own done begun
  pub tells : t.1 ≡ f.tells t.0 begun

-- It is taken before boundary `all` of the run without interrupts from s, and told there.
abbrev pub IsToldAt : {S A B : Type 0} → (ℕ → Bool) → Form S A B → (List (A × B) → State → Type 0) → ℕ → State
    → List (A × B) → A × B → Type 0
IsToldAt open_to f Own all s done t =
    let m = taken_at f.flags f.moment all s t.0 in
    (m < all) × IsToldIn open_to f Own (uninterrupted f.flags m s) done t

-- each of what was told, after these requests were done
abbrev pub EachTold : {C : Type 0} → (List C → C → Type 0) → List C → List C → Type 0
EachTold Told done [] = Unit {0}
EachTold Told done (t ∷ ts) = Told done t × EachTold Told (t ∷ done) ts

-- what handlers own stands in a state, after some requests
abbrev pub IsOwned : {C : Type 0} → (List C → State → Type 0) → State → Type 0
IsOwned {C = C} Own w = (ts : List C) × Own ts w

-- From boundary m of the run without interrupts n steps lead to boundary `all`, the form's end; P holds before each.
pub record Completes {S A B : Type 0} (P : State → Type 0) (f : Form S A B) (m n all : ℕ) (s : State) : Type 0 where
  pub sum : m + n ≡ all
  pub holds : Before P f.flags n (uninterrupted f.flags m s)
  pub on : (j : ℕ) → m ≤ j → suc j ≤ all → f.ends j (uninterrupted f.flags j s) ≡ false
  pub ended : f.ends all (uninterrupted f.flags all s) ≡ true

-- A run r from boundary m on, after these requests were done, follows the run without interrupts from s, which ends at
-- boundary `all` after n steps more. It has one boundary more than steps, and at each stands what handlers own.
pub record Follows {S A B : Type 0} (marks : Marks) (open_to : ℕ → Bool) (f : Form S A B)
    (Own : List (A × B) → State → Type 0) (done : List (A × B)) (m n all : ℕ) (qs : List A) (s : State)
    (r : Ran A B) : Type 0 where
  pub arrived : r.arrived ≡ true
  pub steps : r.steps ≡ n
  pub instrs : r.instrs ≡ counted f.flags n (uninterrupted f.flags m s)
  pub resumed : r.resumed ≡ resumed_of f.flags (taken_at f.flags f.moment all s) s qs all
  pub frames : r.frames ≡ frames_of f.flags (taken_at f.flags f.moment all s) s qs all
  pub taken : asked r.told ≡ taken_before (taken_at f.flags f.moment all s) all qs
  pub told : EachTold (IsToldAt open_to f Own all s) done r.told
  pub left : r.left ≡ left_from (taken_at f.flags f.moment all s) all qs
  pub simulates : AllSimulate marks open_to f.flags r.states (uninterrupted f.flags m s)
  pub boundaries : length r.states ≡ suc n
  pub owns : All (IsOwned Own) r.states
  pub last : Same open_to r.state (uninterrupted f.flags all s)
  pub own : Own (onto r.told done) r.state

-- The run of one sample from any boundary m on follows the run without interrupts from s, the state at boundary 0,
-- where none of its good requests is taken before m.
abbrev pub RunFollows : {S A B : Type 0} → Marks → (ℕ → Bool) → Form S A B → (State → Type 0) → (A → Type 0)
    → (List (A × B) → State → Type 0) → Type 0
RunFollows {S = S} {A = A} {B = B} marks open_to f P Good Own =
    (done : List (A × B)) (m n all most : ℕ) (qs : List A) (w s : State) → n ≤ most → AllGood Good qs
    → Ascend (taken_at f.flags f.moment all s) m qs → Same open_to w (uninterrupted f.flags m s) → Own done w
    → Completes P f m n all s
    → Follows marks open_to f Own done m n all qs s (run_from f most m (is_inside f.flags s m) qs w)

-- the numbers of steps of the samples without interrupts
abbrev pub AllComplete : {S A B : Type 0} → (State → Type 0) → Form S A B → List ℕ → List S → State → Type 0
AllComplete P f [] [] s = Unit {0}
AllComplete P f (n ∷ ns) [] s = ⊥
AllComplete P f [] (x ∷ rest) s = ⊥
AllComplete P f (n ∷ ns) (x ∷ rest) s =
    Completes P f 0 n n (f.give x s) × AllComplete P f ns rest (f.leave x (uninterrupted f.flags n (f.give x s)))

abbrev pub AllWithin : ℕ → List ℕ → Type 0
AllWithin most [] = Unit {0}
AllWithin most (n ∷ ns) = (n ≤ most) × AllWithin most ns

-- what a row is to be, and the rows
abbrev pub expected_row : {S A B : Type 0} → Form S A B → List A → ℕ → S → State → RowSeen S
expected_row f qs n x s = record {
  sample = x;
  answers = f.answers (uninterrupted f.flags n s);
  instrs = counted f.flags n s;
  steps = n;
  resumed = resumed_of f.flags (taken_at f.flags f.moment n s) s qs n;
  frames = frames_of f.flags (taken_at f.flags f.moment n s) s qs n;
}

abbrev pub expected_rows : {S A B : Type 0} → Form S A B → (ℕ → List A) → ℕ → List ℕ → List S → State → List (RowSeen S)
expected_rows f asks k [] samples s = []
expected_rows f asks k (n ∷ ns) [] s = []
expected_rows f asks k (n ∷ ns) (x ∷ rest) s =
    expected_row f (asks k) n x (f.give x s)
    ∷ expected_rows f asks (suc k) ns rest (f.leave x (uninterrupted f.flags n (f.give x s)))

-- the requests that are taken, sample by sample
abbrev pub expected_taken : {S A B : Type 0} → Form S A B → (ℕ → List A) → ℕ → List ℕ → List S → State → List (List A)
expected_taken f asks k [] samples s = []
expected_taken f asks k (n ∷ ns) [] s = []
expected_taken f asks k (n ∷ ns) (x ∷ rest) s =
    taken_before (taken_at f.flags f.moment n (f.give x s)) n (asks k)
    ∷ expected_taken f asks (suc k) ns rest (f.leave x (uninterrupted f.flags n (f.give x s)))

abbrev pub last_uninterrupted : {S A B : Type 0} → Form S A B → List ℕ → List S → State → State
last_uninterrupted f [] samples s = s
last_uninterrupted f (n ∷ ns) [] s = s
last_uninterrupted f (n ∷ ns) (x ∷ rest) s =
    last_uninterrupted f ns rest (f.leave x (uninterrupted f.flags n (f.give x s)))

abbrev pub RowsSimulate : {S A B : Type 0} → Marks → (ℕ → Bool) → Form S A B → List ℕ → List S → List (List State)
    → State → Type 0
RowsSimulate marks open_to f [] samples wss s = Unit {0}
RowsSimulate marks open_to f (n ∷ ns) [] wss s = Unit {0}
RowsSimulate marks open_to f (n ∷ ns) (x ∷ rest) [] s = ⊥
RowsSimulate marks open_to f (n ∷ ns) (x ∷ rest) (ws ∷ wss) s =
    AllSimulate marks open_to f.flags ws (f.give x s)
    × RowsSimulate marks open_to f ns rest wss (f.leave x (uninterrupted f.flags n (f.give x s)))

-- of each sample what its requests told, after these were done
abbrev pub RowsTold : {S A B : Type 0} → (ℕ → Bool) → Form S A B → (List (A × B) → State → Type 0) → List (A × B)
    → List (List (A × B)) → List ℕ → List S → State → Type 0
RowsTold open_to f Own done [] ns samples s = Unit {0}
RowsTold open_to f Own done (ts ∷ tss) [] samples s = ⊥
RowsTold open_to f Own done (ts ∷ tss) (n ∷ ns) [] s = ⊥
RowsTold open_to f Own done (ts ∷ tss) (n ∷ ns) (x ∷ rest) s =
    EachTold (IsToldAt open_to f Own n (f.give x s)) done ts
    × RowsTold open_to f Own (onto ts done) tss ns rest (f.leave x (uninterrupted f.flags n (f.give x s)))

abbrev pub all_onto : {C : Type 0} → List (List C) → List C → List C
all_onto [] done = done
all_onto (xs ∷ xss) done = all_onto xss (onto xs done)

-- the runs of a list of samples, after these requests were done, follow the runs without interrupts from s
pub record AllFollow {S A B : Type 0} (marks : Marks) (open_to : ℕ → Bool) (f : Form S A B)
    (Own : List (A × B) → State → Type 0) (done : List (A × B)) (asks : ℕ → List A) (k : ℕ) (ns : List ℕ)
    (samples : List S) (s : State) (all : Rows S A B)
    : Type 0 where
  pub arrived : all.arrived ≡ true
  pub rows_are : all.rows ≡ expected_rows f asks k ns samples s
  pub taken : map (λ ts. asked ts) all.told ≡ expected_taken f asks k ns samples s
  pub told : RowsTold open_to f Own done all.told ns samples s
  pub simulates : RowsSimulate marks open_to f ns samples all.states s
  pub boundaries : map (λ ws. length ws) all.states ≡ map (λ n. suc n) ns
  pub owns : All (λ ws. All (IsOwned Own) ws) all.states
  pub last : Same open_to all.state (last_uninterrupted f ns samples s)
  pub own : Own (all_onto all.told done) all.state

-- The runs of a list of samples follow the runs without interrupts, whatever good requests `asks` gives each, where
-- these ascend, each sample leaves what stands in the open bytes, and none takes more steps than `most`.
abbrev pub RunsFollow : {S A B : Type 0} → Marks → (ℕ → Bool) → Form S A B → (State → Type 0) → (A → Type 0)
    → (List (A × B) → State → Type 0) → Type 0
RunsFollow {S = S} {A = A} {B = B} marks open_to f P Good Own =
    (asks : ℕ → List A) → ((k : ℕ) → AllGood Good (asks k) × Ascend f.moment 0 (asks k))
    → (done : List (A × B)) (k most : ℕ) (ns : List ℕ) (samples : List S) (w s : State) → AllWithin most ns
    → All (GivenLeavesOwn f Own) samples → AllComplete P f ns samples s → Same open_to w s → Own done w
    → AllFollow marks open_to f Own done asks k ns samples s (rows_from f most asks k samples w)

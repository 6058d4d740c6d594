-- The runs of a list of samples go along with the runs without interrupts.
use Rattle.std.proofs.Common.{◌≡◌, ℕ, suc, Bool, false, ◌&&◌, List, [], ◌∷◌, refl, ap₂, arith}
use Rattle.std.specs.Prelude.{All}
use Rattle.std.proofs.lemmas.List.Elements.{All-cons}
use Rattle.cpu12_parts.specs.State.{State}
use Rattle.cpu12_emul.specs.Simulation.{Marks}
use Rattle.run_law.specs.Forms.{Form, Ran, run_from, RowSeen, row_of, rows_from}
use Rattle.run_law.specs.Uninterrupted.{uninterrupted}
use Rattle.run_law.specs.Following.{onto, IsOwned, Follows, expected_row, AllFollow, RunsFollow}
use Rattle.run_law.proofs.{Grounds.Ground, Samples.run_follows_whole}

one_row : {S A B : Type 0} (marks : Marks) (open_to : ℕ → Bool) (f : Form S A B) (P : State → Type 0)
    (Good : A → Type 0) (Own : List (A × B) → State → Type 0) → Ground marks open_to f P Good Own
    → (done : List (A × B)) (asks : ℕ → List A) (most k n : ℕ) (ns : List ℕ) (x : S) (rest : List S) (w s : State)
    → (b : Follows marks open_to f Own done 0 n n (asks k) (f.give x s) (run_from f most 0 false (asks k) (f.give x w)))
    → AllFollow marks open_to f Own (onto (run_from f most 0 false (asks k) (f.give x w)).told done) asks
    (suc k) ns rest (f.leave x (uninterrupted f.flags n (f.give x s)))
    (rows_from f most asks (suc k) rest (f.leave x (run_from f most 0 false (asks k) (f.give x w)).state))
    → AllFollow marks open_to f Own done asks k (n ∷ ns) (x ∷ rest) s (rows_from f most asks k (x ∷ rest) w)
unfolding rows_from
one_row {S = S} {A = A} {B = B} marks open_to f P Good Own gr done asks most k n ns x rest w s b more =
    let r : Ran A B = run_from f most 0 false (asks k) (f.give x w) in
    let t : State = uninterrupted f.flags n (f.give x s) in
    let sound = gr.sound in
    let answers : f.answers r.state ≡ f.answers t = sound.answers r.state t b.last in
    let instrs = b.instrs in
    let steps = b.steps in
    let resumed = b.resumed in
    let frames = b.frames in
    let row : row_of f x r ≡ expected_row f (asks k) n x (f.give x s) = cc in
    record {
      arrived = ap₂ (λ (i j : Bool). i && j) b.arrived more.arrived;
      rows_are = ap₂ (λ (i : RowSeen S) (is : List (RowSeen S)). i ∷ is) row more.rows_are;
      taken = ap₂ (λ (i : List A) (is : List (List A)). i ∷ is) b.taken more.taken;
      told = (b.told, more.told);
      simulates = (b.simulates, more.simulates);
      boundaries = ap₂ (λ (i : ℕ) (is : List ℕ). i ∷ is) b.boundaries more.boundaries;
      owns = All-cons (λ (ws : List State). All (IsOwned Own) ws) r.states
          (rows_from f most asks (suc k) rest (f.leave x r.state)).states b.owns more.owns;
      last = more.last;
      own = more.own;
    }

pub runs_follow : (S A B : Type 0) (marks : Marks) (open_to : ℕ → Bool) (f : Form S A B) (P : State → Type 0)
    (Good : A → Type 0) (Own : List (A × B) → State → Type 0) → Ground marks open_to f P Good Own
    → RunsFollow marks open_to f P Good Own
unfolding rows_from
runs_follow S A B marks open_to f P Good Own gr asks ok done k most [] [] w s le gives go l own =
    record {
      arrived = refl;
      rows_are = refl;
      taken = refl;
      told = tt;
      simulates = tt;
      boundaries = refl;
      owns = λ j ws lt. absurd (omega arith);
      last = l;
      own = own;
    }
runs_follow S A B marks open_to f P Good Own gr asks ok done k most (n ∷ ns) [] w s le gives go l own = absurd go
runs_follow S A B marks open_to f P Good Own gr asks ok done k most [] (x ∷ rest) w s le gives go l own = absurd go
runs_follow S A B marks open_to f P Good Own gr asks ok done k most (n ∷ ns) (x ∷ rest) w s le gives go l own =
    let sound = gr.sound in
    let keeps = sound.leaves_open in
    let b = run_follows_whole S A B marks open_to f P Good Own gr done n most (asks k) (f.give x w) (f.give x s) le.0
    (ok k).0 (ok k).1 (sound.gives x w s l) (gives 0 x (omega arith) done w own) go.0 in
    let r : Ran A B = run_from f most 0 false (asks k) (f.give x w) in
    let t : State = uninterrupted f.flags n (f.give x s) in
    one_row marks open_to f P Good Own gr done asks most k n ns x rest w s b
    (runs_follow S A B marks open_to f P Good Own gr asks ok (onto r.told done) (suc k) most ns rest (f.leave x r.state)
    (f.leave x t) le.1 (λ j d lt. gives (suc j) d (omega arith)) go.1 (sound.leaves x r.state t b.last)
    (keeps.leaves (onto r.told done) x r.state b.own))

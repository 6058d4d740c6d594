-- A run by its next boundary and step.
use Rattle.std.proofs.Common.{◌≡◌, ℕ, zero, suc, ◌+◌, Bool, true, false, not, ◌&&◌, nat_lt, Ok, Err, List, [], ◌∷◌}
use Rattle.std.proofs.Common.{◌++◌, length, refl, ap, ap₂, sym, ◌∙◌, arith, append_assoc, append-nil, length-append}
use Rattle.std.proofs.lemmas.Bool.Decides.{nat_tests}
use Rattle.std.proofs.lemmas.List.{map-append}
use Rattle.cpu12_parts.specs.State.{State}
use Rattle.cpu12_emul.specs.{Step.Next, Step.next_of, Step.is_part, Take.FrameSeen, declared.ends.Stepped.Stepped}
use Rattle.run_law.specs.Forms.{Form, Taking, Ran, takes, one_if, is_empty, resumes, before_rest, stuck, then_rest}
use Rattle.run_law.specs.Forms.{run_from, ended}
use Rattle.run_forms.specs.Rest.{SampleSummary, TakingSummary, with_before, summary, after, rest_of}
use Rattle.run_forms.specs.Rows.{tellings}

-- what is counted before the rest and in it
merged : {A B : Type 0} (inside : Bool) (b : Taking A B) (kind : Stepped) (i m r : ℕ) (ts : List B)
    (fs : List (ℕ × FrameSeen)) (k : Ran A B)
    → after i m r ts fs (summary (before_rest inside b kind k))
    ≡ after (i + one_if (not (is_part kind))) (m + 1) (r + resumes inside b) (ts ++ tellings b.told)
    (fs ++ b.frames) (summary k)
merged {A = A} {B = B} inside b kind i m r ts fs k =
    let e : i + (one_if (not (is_part kind)) + k.instrs) ≡ i + one_if (not (is_part kind)) + k.instrs = omega arith in
    let f : m + suc k.steps ≡ m + 1 + k.steps = omega arith in
    let h : r + (resumes inside b + k.resumed) ≡ r + resumes inside b + k.resumed = omega arith in
    let both : tellings (b.told ++ k.told) ≡ tellings b.told ++ tellings k.told =
    map-append (λ (t : A × B). t.1) b.told k.told in
    let o : ts ++ tellings (b.told ++ k.told) ≡ (ts ++ tellings b.told) ++ tellings k.told =
    ap (λ (us : List B). ts ++ us) both ∙ sym (append_assoc ts (tellings b.told) (tellings k.told)) in
    let l : fs ++ (b.frames ++ k.frames) ≡ (fs ++ b.frames) ++ k.frames = sym (append_assoc fs b.frames k.frames) in
    cc

is_longer : (fs gs : List (ℕ × FrameSeen)) → nat_lt (length fs) (length (fs ++ gs)) ≡ not (is_empty gs)
is_longer fs [] = let e = length-append fs [] in grind (arith, nat_tests, e)
is_longer fs (g ∷ gs) = let e = length-append fs (g ∷ gs) in grind (arith, nat_tests, e)

-- whether frames were added at a boundary
taken_there : {A B : Type 0} (inside taken : Bool) (b : Taking A B) (fs fs2 : List (ℕ × FrameSeen))
    → fs ++ b.frames ≡ fs2 → taken ≡ nat_lt (length fs) (length fs2)
    → resumes inside b ≡ one_if (inside && taken)
taken_there inside taken b fs fs2 ef ta =
    ap (λ (k : Bool). one_if (inside && k))
    (sym (is_longer fs b.frames) ∙ ap (λ (l : List (ℕ × FrameSeen)). nat_lt (length fs) (length l)) ef ∙ sym ta)

-- a boundary and a step
first_step : {S A B : Type 0} (g : Form S A B) (n m : ℕ) (inside : Bool) (qs : List A) (s t : State) (next : Next)
    → let b : Taking A B = takes g m qs s in
    g.ends m s ≡ false → b.state ≡ t → next_of g.flags t ≡ Ok next
    → run_from g (suc n) m inside qs s
    ≡ before_rest inside b next.kind (run_from g n (suc m) (is_part next.kind) b.left next.state)
unfolding run_from
first_step {A = A} {B = B} g n m inside qs s t next on es ne =
    let b : Taking A B = takes g m qs s in
    let rest : Bool → State → Ran A B = λ k u. run_from g n (suc m) k b.left u in
    let one : run_from g (suc n) m inside qs s ≡ then_rest inside b rest (next_of g.flags b.state) = rw on refl in
    one ∙ ap (then_rest inside b rest) (ap (next_of g.flags) es ∙ ne)

-- and with what was counted before them
pub onward : {S A B : Type 0} (g : Form S A B) (n m : ℕ) (inside taken : Bool) (qs qs2 : List A) (s t : State)
    (next : Next) (i j r : ℕ) (fs fs2 : List (ℕ × FrameSeen)) (ts ts2 : List B) → g.ends m s ≡ false
    → with_before fs ts (takes g m qs s) ≡ record { state = t; frames = fs2; told = ts2; left = qs2 }
    → next_of g.flags t ≡ Ok next → taken ≡ nat_lt (length fs) (length fs2)
    → rest_of g (suc n) m inside qs s i j r ts fs ≡ rest_of g n (m + 1) (is_part next.kind) qs2 next.state
    (i + one_if (not (is_part next.kind))) (j + 1) (r + one_if (inside && taken)) ts2 fs2
unfolding run_from
onward {A = A} {B = B} g n m inside taken qs qs2 s t next i j r fs fs2 ts ts2 on te ne ta =
    let b : Taking A B = takes g m qs s in
    let es : b.state ≡ t = ap (λ (k : TakingSummary A B). k.state) te in
    let ef : fs ++ b.frames ≡ fs2 = ap (λ (k : TakingSummary A B). k.frames) te in
    let el : b.left ≡ qs2 = ap (λ (k : TakingSummary A B). k.left) te in
    let m1 : suc m ≡ m + 1 = omega arith in
    let first = first_step g n m inside qs s t next on es ne in
    let there : Ran A B = run_from g n (suc m) (is_part next.kind) b.left next.state in
    let same : there ≡ run_from g n (m + 1) (is_part next.kind) qs2 next.state =
    ap₂ (λ (k : ℕ) (l : List A). run_from g n k (is_part next.kind) l next.state) m1 el in
    let et : ts ++ tellings b.told ≡ ts2 = ap (λ (k : TakingSummary A B). k.told) te in
    ap (λ (o : Ran A B). after i j r ts fs (summary o)) first
    ∙ merged inside b next.kind i j r ts fs there
    ∙ ap₂ (λ (k : ℕ) (l : List (ℕ × FrameSeen)). after (i + one_if (not (is_part next.kind))) (j + 1) (r + k)
    (ts ++ tellings b.told) l (summary there)) (taken_there inside taken b fs fs2 ef ta) ef
    ∙ ap (λ (us : List B). after (i + one_if (not (is_part next.kind))) (j + 1) (r + one_if (inside && taken)) us fs2
    (summary there)) et
    ∙ ap (λ (o : Ran A B). after (i + one_if (not (is_part next.kind))) (j + 1) (r + one_if (inside && taken)) ts2 fs2
    (summary o)) same

-- where no step is defined, the run ends
pub no_step : {S A B : Type 0} (g : Form S A B) (n m : ℕ) (inside taken : Bool) (qs qs2 : List A) (s t : State)
    (byte : ℕ) (i j r : ℕ) (fs fs2 : List (ℕ × FrameSeen)) (ts ts2 : List B) → g.ends m s ≡ false
    → with_before fs ts (takes g m qs s) ≡ record { state = t; frames = fs2; told = ts2; left = qs2 }
    → next_of g.flags t ≡ Err byte → taken ≡ nat_lt (length fs) (length fs2)
    → rest_of g (suc n) m inside qs s i j r ts fs
    ≡ record {
      arrived = false;
      state = t;
      instrs = i;
      steps = j;
      resumed = r + one_if (inside && taken);
      told =
          ts2;
      frames = fs2;
    }
unfolding run_from
no_step {A = A} {B = B} g n m inside taken qs qs2 s t byte i j r fs fs2 ts ts2 on te ne ta =
    let b : Taking A B = takes g m qs s in
    let es : b.state ≡ t = ap (λ (k : TakingSummary A B). k.state) te in
    let ef : fs ++ b.frames ≡ fs2 = ap (λ (k : TakingSummary A B). k.frames) te in
    let rest : Bool → State → Ran A B = λ k u. run_from g n (suc m) k b.left u in
    let one : run_from g (suc n) m inside qs s ≡ then_rest inside b rest (next_of g.flags b.state) = rw on refl in
    let two : then_rest inside b rest (next_of g.flags b.state) ≡ stuck inside b =
    ap (then_rest inside b rest) (ap (next_of g.flags) es ∙ ne) in
    let i0 : i + 0 ≡ i = omega arith in
    let j0 : j + 0 ≡ j = omega arith in
    let et : ts ++ tellings b.told ≡ ts2 = ap (λ (k : TakingSummary A B). k.told) te in
    let rs = taken_there inside taken b fs fs2 ef ta in
    ap (λ (o : Ran A B). after i j r ts fs (summary o)) (one ∙ two) ∙ cc

pub at_rest : {S A B : Type 0} (g : Form S A B) (n m : ℕ) (inside : Bool) (qs : List A) (s : State) → g.ends m s ≡ true
    → run_from g n m inside qs s ≡ ended true qs s
unfolding run_from
at_rest g zero m inside qs s e = rw e refl
at_rest g (suc n) m inside qs s e = rw e refl

pub spent : {S A B : Type 0} (g : Form S A B) (n m : ℕ) (inside : Bool) (qs : List A) (s : State) → n ≡ 0
    → run_from g n m inside qs s ≡ ended (g.ends m s) qs s
unfolding run_from
spent g zero m inside qs s z = refl
spent g (suc n) m inside qs s z = absurd (omega arith)

counted_there : {A B : Type 0} (arrived : Bool) (qs : List A) (s : State) (i j r : ℕ) (ts : List B)
    (fs : List (ℕ × FrameSeen))
    → after i j r ts fs (summary (ended {A = A} {B = B} arrived qs s))
    ≡ record { arrived = arrived; state = s; instrs = i; steps = j; resumed = r; told = ts; frames = fs }
counted_there arrived qs s i j r ts fs =
    let i0 : i + 0 ≡ i = omega arith in
    let j0 : j + 0 ≡ j = omega arith in
    let r0 : r + 0 ≡ r = omega arith in
    let t0 = append-nil ts in
    let f0 = append-nil fs in
    cc

-- at the end
pub rest_at_end : {S A B : Type 0} (g : Form S A B) (n m : ℕ) (inside : Bool) (qs : List A) (s : State) (i j r : ℕ)
    (ts : List B) (fs : List (ℕ × FrameSeen)) → g.ends m s ≡ true
    → rest_of g n m inside qs s i j r ts fs
    ≡ record { arrived = true; state = s; instrs = i; steps = j; resumed = r; told = ts; frames = fs }
rest_at_end {A = A} {B = B} g n m inside qs s i j r ts fs e =
    ap (λ (o : Ran A B). after i j r ts fs (summary o)) (at_rest g n m inside qs s e)
    ∙ counted_there true qs s i j r ts fs

pub rest_spent : {S A B : Type 0} (g : Form S A B) (n m : ℕ) (inside : Bool) (qs : List A) (s : State) (i j r : ℕ)
    (ts : List B) (fs : List (ℕ × FrameSeen)) → n ≡ 0
    → rest_of g n m inside qs s i j r ts fs
    ≡ record { arrived = g.ends m s; state = s; instrs = i; steps = j; resumed = r; told = ts; frames = fs }
rest_spent {A = A} {B = B} g n m inside qs s i j r ts fs z =
    ap (λ (o : Ran A B). after i j r ts fs (summary o)) (spent g n m inside qs s z)
    ∙ counted_there (g.ends m s) qs s i j r ts fs

-- with nothing counted before
pub from_nothing : {B : Type 0} (b : SampleSummary B) → after 0 0 0 [] [] b ≡ b
from_nothing {B = B} b =
    let i0 : 0 + b.instrs ≡ b.instrs = omega arith in
    let j0 : 0 + b.steps ≡ b.steps = omega arith in
    let r0 : 0 + b.resumed ≡ b.resumed = omega arith in
    ap₂ (λ (k l : ℕ). by k l (0 + b.resumed)) i0 j0 ∙ ap (λ (k : ℕ). by b.instrs b.steps k) r0
  where
    by : ℕ → ℕ → ℕ → SampleSummary B
    by i j r = record {
      arrived = b.arrived;
      state = b.state;
      instrs = i;
      steps = j;
      resumed = r;
      told =
          b.told;
      frames = b.frames;
    }

-- what is left and the states at the boundaries, by the first of them
pub runs_onward : {S A B : Type 0} (g : Form S A B) (n m : ℕ) (inside : Bool) (qs qs2 : List A) (s t : State)
    (next : Next) (fs fs2 : List (ℕ × FrameSeen)) (ts ts2 : List B) → g.ends m s ≡ false
    → with_before fs ts (takes g m qs s) ≡ record { state = t; frames = fs2; told = ts2; left = qs2 }
    → next_of g.flags t ≡ Ok next
    → ((run_from g (suc n) m inside qs s).left ≡ (run_from g n (m + 1) (is_part next.kind) qs2 next.state).left)
    × ((run_from g (suc n) m inside qs s).states
    ≡ t ∷ (run_from g n (m + 1) (is_part next.kind) qs2 next.state).states)
unfolding run_from
runs_onward {A = A} {B = B} g n m inside qs qs2 s t next fs fs2 ts ts2 on te ne =
    let b : Taking A B = takes g m qs s in
    let es : b.state ≡ t = ap (λ (k : TakingSummary A B). k.state) te in
    let el : b.left ≡ qs2 = ap (λ (k : TakingSummary A B). k.left) te in
    let m1 : suc m ≡ m + 1 = omega arith in
    let first = first_step g n m inside qs s t next on es ne in
    let same = ap₂ (λ (k : ℕ) (l : List A). run_from g n k (is_part next.kind) l next.state) m1 el in (
      ap (λ (r : Ran A B). r.left) first ∙ ap (λ (r : Ran A B). r.left) same,
      ap (λ (r : Ran A B). r.states) first ∙ ap₂ (λ (u : State) (r : Ran A B). u ∷ r.states) es same,
    )

pub runs_stuck : {S A B : Type 0} (g : Form S A B) (n m : ℕ) (inside : Bool) (qs qs2 : List A) (s t : State)
    (byte : ℕ) (fs fs2 : List (ℕ × FrameSeen)) (ts ts2 : List B) → g.ends m s ≡ false
    → with_before fs ts (takes g m qs s) ≡ record { state = t; frames = fs2; told = ts2; left = qs2 }
    → next_of g.flags t ≡ Err byte
    → ((run_from g (suc n) m inside qs s).left ≡ qs2) × ((run_from g (suc n) m inside qs s).states ≡ t ∷ [])
unfolding run_from
runs_stuck {A = A} {B = B} g n m inside qs qs2 s t byte fs fs2 ts ts2 on te ne =
    let b : Taking A B = takes g m qs s in
    let es : b.state ≡ t = ap (λ (k : TakingSummary A B). k.state) te in
    let el : b.left ≡ qs2 = ap (λ (k : TakingSummary A B). k.left) te in
    let rest : Bool → State → Ran A B = λ k u. run_from g n (suc m) k b.left u in
    let one : run_from g (suc n) m inside qs s ≡ then_rest inside b rest (next_of g.flags b.state) = rw on refl in
    let two : then_rest inside b rest (next_of g.flags b.state) ≡ stuck inside b =
    ap (then_rest inside b rest) (ap (next_of g.flags) es ∙ ne) in (
      ap (λ (r : Ran A B). r.left) (one ∙ two) ∙ el,
      ap (λ (r : Ran A B). r.states) (one ∙ two) ∙ ap (λ (u : State). u ∷ []) es,
    )

-- The run of one sample goes along with its run without interrupts.
use Rattle.std.proofs.Common.{◌≡◌, ℕ, zero, suc, ◌+◌, ◌<◌, ◌≤◌, Bool, true, false, not, ◌&&◌, nat_le, List, [], ◌∷◌}
use Rattle.std.proofs.Common.{◌++◌, refl, ap, ap₂, sym, ◌∙◌, subst}
use Rattle.std.proofs.Common.{arith, inl}
use Rattle.std.specs.Prelude.{All, if◌then◌else◌, length}
use Rattle.std.proofs.lemmas.Bool.Decides.{nat_tests}
use Rattle.std.proofs.lemmas.List.{map-append}
use Rattle.std.proofs.lemmas.List.Elements.{All-cons}
use Rattle.cpu12_parts.specs.State.{State}
use Rattle.cpu12_emul.specs.{declared.ends.Stepped.Stepped, Step.next_of, Step.is_part}
use Rattle.cpu12_emul.specs.{Take.FrameSeen, Take.may_interrupt, Simulation.Same, Simulation.Marks}
use Rattle.run_law.specs.Forms.{Form, Taking, Ran, takes, one_if, is_empty, ended, before_rest, then_rest, run_from}
use Rattle.run_law.specs.Uninterrupted.{stepped, state_by, uninterrupted, counted, is_inside, taken_at}
use Rattle.run_law.specs.Soundness.{Before, AllSimulate, AllGood, Ascend}
use Rattle.run_law.specs.Following.{onto, asked, IsToldIn, IsToldAt, EachTold, IsOwned, Completes, Follows}
use Rattle.run_law.specs.Following.{RunFollows}
use Rattle.run_law.proofs.{Grounds.Ground, Steps.StepFollows, Steps.step_follows}
use Rattle.run_law.proofs.Takes.{simulates_loosely, settled_first}
use Rattle.run_law.proofs.Boundaries.{Boundary, boundary, drop_due, taken_here, frames_here}
use Rattle.run_law.proofs.Moments.{taken_ascend, drop_is, here_is, frames_is}
use Rattle.run_law.proofs.Expected.{uninterrupted_suc, ascend_rest, frames_along, resumed_along, taken_along}
use Rattle.run_law.proofs.Expected.{left_along, frames_whole, resumed_whole, taken_whole, left_whole}

-- the run of a sample
record Along {S A B : Type 0} (marks : Marks) (open_to : ℕ → Bool) (f : Form S A B)
    (Own : List (A × B) → State → Type 0) (Told : List (A × B) → A × B → Type 0) (done : List (A × B)) (at : A → ℕ)
    (n fuel m : ℕ) (inside : Bool) (qs : List A) (w s : State) : Type 0 where
  ran : Ran A B
  goes : run_from f fuel m inside qs w ≡ ran
  arrived : ran.arrived ≡ true
  last : Same open_to ran.state (uninterrupted f.flags n s)
  simulates : AllSimulate marks open_to f.flags ran.states s
  boundaries : length ran.states ≡ suc n
  owns : All (IsOwned Own) ran.states
  instrs : ran.instrs ≡ counted f.flags n s
  steps : ran.steps ≡ n
  resumed : ran.resumed ≡ resumed_along f.flags at m inside n qs s
  frames : ran.frames ≡ frames_along f.flags at m n qs s
  taken : asked ran.told ≡ taken_along at m n qs
  left : ran.left ≡ left_along at m n qs
  told : EachTold Told done ran.told
  own : Own (onto ran.told done) ran.state

good_rest : {A : Type 0} (Good : A → Type 0) (moment : A → ℕ) (o : Bool) (m : ℕ) (qs : List A) → AllGood Good qs
    → AllGood Good (drop_due moment o m qs)
good_rest Good moment o m [] h = tt
good_rest Good moment o m (q ∷ qs) h = pick (o && nat_le (moment q) m) (good_rest Good moment o m qs h.1) h
  where
    pick : (b : Bool) → AllGood Good (drop_due moment o m qs) → AllGood Good (q ∷ qs)
        → AllGood Good (if b then drop_due moment o m qs else q ∷ qs)
    pick true x y = x
    pick false x y = y

onto_both : {C : Type 0} (xs ys done : List C) → onto (xs ++ ys) done ≡ onto ys (onto xs done)
onto_both [] ys done = refl
onto_both (x ∷ xs) ys done = onto_both xs ys (x ∷ done)

told_both : {C : Type 0} (Told : List C → C → Type 0) (xs ys done : List C) → EachTold Told done xs
    → EachTold Told (onto xs done) ys → EachTold Told done (xs ++ ys)
told_both Told [] ys done a b = b
told_both Told (x ∷ xs) ys done a b = (a.0, told_both Told xs ys (x ∷ done) a.1 b)

-- moments that do not fall from a later one on
from_later : {A : Type 0} (at : A → ℕ) (m k : ℕ) (qs : List A) → m ≤ k → Ascend at k qs → Ascend at m qs
from_later at m k [] le up = tt
from_later at m k (q ∷ qs) le up = (omega (arith, le, up.0), up.1)

-- where requests are taken at boundary m, what is told in its state is told where they are taken
told_there : {S A B : Type 0} (open_to : ℕ → Bool) (f : Form S A B) (Own : List (A × B) → State → Type 0)
    (all m : ℕ) (s : State) (qs : List A) (done ts : List (A × B)) → m < all
    → Ascend (taken_at f.flags f.moment all s) m qs
    → asked ts ≡ taken_here (taken_at f.flags f.moment all s) true m qs
    → EachTold (IsToldIn open_to f Own (uninterrupted f.flags m s)) done ts
    → EachTold (IsToldAt open_to f Own all s) done ts
told_there open_to f Own all m s qs done [] lt up are h = tt
told_there open_to f Own all m s [] done (t ∷ ts) lt up are h = absurd (cc)
told_there {S = S} {A = A} {B = B} open_to f Own all m s (q ∷ qs) done (t ∷ ts) lt up are h =
    pick (nat_le (taken_at f.flags f.moment all s q) m) refl are
    (λ rest. told_there open_to f Own all m s qs (t ∷ done) ts lt
    (from_later (taken_at f.flags f.moment all s) m (taken_at f.flags f.moment all s q) qs up.0 up.1) rest h.1)
  where
    at : A → ℕ
    at = taken_at f.flags f.moment all s

    pick : (b : Bool) → nat_le (at q) m ≡ b
        → t.0 ∷ asked ts ≡ (if b then q ∷ taken_here at true m qs else [])
        → (asked ts ≡ taken_here at true m qs → EachTold (IsToldAt open_to f Own all s) (t ∷ done) ts)
        → EachTold (IsToldAt open_to f Own all s) done (t ∷ ts)
    pick false d e more = absurd (cc)
    pick true d e more =
        let is : t.0 ≡ q = cc in
        let rest : asked ts ≡ taken_here at true m qs = cc in
        let le : at q ≤ m = grind (arith, nat_tests) in
        let same : m ≡ at q = omega (arith, up.0, le) in
        let here : m ≡ at t.0 = same ∙ ap at (sym is) in (
          (
            subst (λ (k : ℕ). k < all) here lt,
            subst (λ (k : ℕ). IsToldIn open_to f Own (uninterrupted f.flags k s) done t) here h.0,
          ),
          more rest,
        )

-- at the end
at_end : {S A B : Type 0} (marks : Marks) (open_to : ℕ → Bool) (f : Form S A B) (Own : List (A × B) → State → Type 0)
    (Told : List (A × B) → A × B → Type 0) (done : List (A × B)) (at : A → ℕ) (fuel m : ℕ) (inside : Bool)
    (qs : List A) (w s : State)
    → Same open_to w s → f.ends m w ≡ true → Own done w → Along marks open_to f Own Told done at 0 fuel m inside qs w s
unfolding run_from
at_end marks open_to f Own Told done at fuel m inside qs w s l e own = record {
  ran = ended true qs w;
  goes = goes_by fuel;
  arrived = refl;
  last = l;
  simulates = (inl l, tt);
  boundaries = refl;
  owns = All-cons (IsOwned Own) w [] (done, own) (λ k d lt. absurd (omega arith));
  instrs = refl;
  steps = refl;
  resumed = refl;
  frames = refl;
  taken = refl;
  left = refl;
  told = tt;
  own = own;
}
  where
    goes_by : (k : ℕ) → run_from f k m inside qs w ≡ ended true qs w
    goes_by zero = rw e refl
    goes_by (suc k) = rw e refl

-- one more boundary and step
one_more : {S A B : Type 0} (marks : Marks) (open_to : ℕ → Bool) (f : Form S A B) (Own : List (A × B) → State → Type 0)
    (Told : List (A × B) → A × B → Type 0) (done : List (A × B)) (at : A → ℕ) (n fuel m : ℕ) (inside : Bool)
    (qs : List A) (w s : State) → f.ends m w ≡ false
    → (b : Boundary marks open_to f Own done m true qs w s) → (g : StepFollows open_to f.flags (takes f m qs w).state s)
    → drop_due f.moment (may_interrupt s) m qs ≡ drop_due at true m qs
    → taken_here f.moment (may_interrupt s) m qs ≡ taken_here at true m qs
    → frames_here f.moment (may_interrupt s) true m s qs ≡ frames_here at true true m s qs
    → EachTold Told done (takes f m qs w).told
    → Along marks open_to f Own Told (onto (takes f m qs w).told done) at n fuel (suc m) (is_part g.next.kind)
    (takes f m qs w).left g.next.state (stepped f.flags s)
    → Along marks open_to f Own Told done at (suc n) (suc fuel) m inside qs w s
unfolding run_from
one_more {S = S} {A = A} {B = B} marks open_to f Own Told done at n fuel m inside qs w s e b g drop here frame told r =
    let t : Taking A B = takes f m qs w in
    let rest : Bool → State → Ran A B = λ i v. run_from f fuel (suc m) i t.left v in
    let now : run_from f (suc fuel) m inside qs w ≡ then_rest inside t rest (next_of f.flags t.state) = rw e refl in
    let go : run_from f (suc fuel) m inside qs w ≡ before_rest inside t g.next.kind r.ran =
    now ∙ ap (then_rest inside t rest) g.goes ∙ ap (before_rest inside t g.next.kind) r.goes in
    let left : t.left ≡ drop_due at true m qs = b.left ∙ drop in
    let frames : t.frames ≡ frames_here at true true m s qs = b.frames ∙ frame in
    record {
      ran = before_rest inside t g.next.kind r.ran;
      goes = go;
      arrived = r.arrived;
      last = r.last;
      simulates = (b.simulates, r.simulates);
      boundaries = ap suc r.boundaries;
      owns = All-cons (IsOwned Own) t.state r.ran.states (onto t.told done, b.own) r.owns;
      instrs = ap₂ (λ (k : Stepped) (i : ℕ). one_if (not (is_part k)) + i) g.kind r.instrs;
      steps = ap suc r.steps;
      resumed = ap₂ (λ (fs : List (ℕ × FrameSeen)) (i : ℕ). one_if (inside && not (is_empty fs)) + i) frames
          (r.resumed ∙ ap₂ (λ (k : Stepped) (qs' : List A). resumed_along f.flags at (suc m) (is_part k) n qs'
          (stepped f.flags s)) g.kind left);
      frames = ap₂ (λ (fs gs : List (ℕ × FrameSeen)). fs ++ gs) frames
          (r.frames ∙ ap (λ (qs' : List A). frames_along f.flags at (suc m) n qs' (stepped f.flags s)) left);
      taken = map-append (λ (p : A × B). p.0) t.told r.ran.told
          ∙ ap₂ (λ (xs ys : List A). xs ++ ys) (b.taken ∙ here)
          (r.taken ∙ ap (λ (qs' : List A). taken_along at (suc m) n qs') left);
      left = r.left ∙ ap (λ (qs' : List A). left_along at (suc m) n qs') left;
      told = told_both Told t.told r.ran.told done told r.told;
      own = subst (λ (ts : List (A × B)). Own ts r.ran.state) (sym (onto_both t.told r.ran.told done)) r.own;
    }

along : {S A B : Type 0} (marks : Marks) (open_to : ℕ → Bool) (f : Form S A B) (P : State → Type 0) (Good : A → Type 0)
    (Own : List (A × B) → State → Type 0)
    → Ground marks open_to f P Good Own
    → (all : ℕ) (s0 : State) (from : ℕ)
    → ((m : ℕ) → from ≤ m → suc m ≤ all → f.ends m (uninterrupted f.flags m s0) ≡ false)
    → f.ends all (uninterrupted f.flags all s0) ≡ true
    → (done : List (A × B)) (n fuel m : ℕ) (inside : Bool) (qs : List A) (w s : State) → from ≤ m → n ≤ fuel
    → m + n ≡ all → uninterrupted f.flags m s0 ≡ s
    → Same open_to w s → Own done w
    → Before P f.flags n s → AllGood Good qs → Ascend (taken_at f.flags f.moment all s0) m qs
    → Along marks open_to f Own (IsToldAt open_to f Own all s0) done (taken_at f.flags f.moment all s0) n fuel m inside
    qs w s
along marks open_to f P Good Own gr all s0 from on end done zero fuel m inside qs w s past le sum here l own h good up =
    let sound = gr.sound in
    let is : m ≡ all = omega arith in
    let there : f.ends m s ≡ true =
    subst (λ (k : ℕ). f.ends k s ≡ true) (sym is)
    (ap (f.ends all) (sym here ∙ ap (λ (k : ℕ). uninterrupted f.flags k s0) is) ∙ end) in
    at_end marks open_to f Own (IsToldAt open_to f Own all s0) done (taken_at f.flags f.moment all s0) fuel m inside
    qs w s l (sound.ends m w s l ∙ there) own
along marks open_to f P Good Own gr all s0 from on end done (suc n) zero m inside qs w s past le sum here l own h
    good up =
    absurd (omega arith)
along {S = S} {A = A} {B = B} marks open_to f P Good Own gr all s0 from on end done (suc n)
    (suc fuel) m inside qs w s past le sum here l own h good up =
    let at : A → ℕ = taken_at f.flags f.moment all s0 in
    let here_holds : P s = h 0 (omega arith) in
    let b = boundary marks open_to f P Good Own gr done m true qs w s good here_holds
    (settled_first marks open_to w s l) own in
    let t : Taking A B = takes f m qs w in
    let sound = gr.sound in
    let keeps = sound.leaves_open in
    let loose = simulates_loosely marks open_to t.state s b.simulates in
    let g = step_follows gr.machine.step_keeps open_to f.flags t.state s loose (sound.shown s here_holds) in
    let own2 : Own (onto t.told done) g.next.state =
    subst (λ (v : State). Own (onto t.told done) v) (ap (state_by t.state) g.goes)
    (keeps.steps (onto t.told done) t.state s here_holds loose b.own) in
    let lt : m < all = omega arith in
    let drop : drop_due f.moment (may_interrupt s) m qs ≡ drop_due at true m qs =
    subst (λ (u : State). drop_due f.moment (may_interrupt u) m qs ≡ drop_due at true m qs) here
    (drop_is f.flags all s0 f.moment m qs lt up) in
    let taken : taken_here f.moment (may_interrupt s) m qs ≡ taken_here at true m qs =
    subst (λ (u : State). taken_here f.moment (may_interrupt u) m qs ≡ taken_here at true m qs) here
    (here_is f.flags all s0 f.moment m qs lt up) in
    let frame : frames_here f.moment (may_interrupt s) true m s qs ≡ frames_here at true true m s qs =
    subst (λ (u : State). frames_here f.moment (may_interrupt u) true m s qs ≡ frames_here at true true m s qs) here
    (frames_is f.flags all s0 s f.moment true m qs lt up) in
    let next : uninterrupted f.flags (suc m) s0 ≡ stepped f.flags s = uninterrupted_suc f.flags m s0
    ∙ ap (stepped f.flags) here in
    let told : EachTold (IsToldAt open_to f Own all s0) done t.told =
    told_there open_to f Own all m s0 qs done t.told lt up (b.taken ∙ taken)
    (subst (λ (u : State). EachTold (IsToldIn open_to f Own u) done t.told) (sym here) b.told) in
    one_more marks open_to f Own (IsToldAt open_to f Own all s0) done at n fuel m inside qs w s
    (sound.ends m w s l ∙ ap (f.ends m) (sym here) ∙ on m past lt) b g drop taken frame told
    (along marks open_to f P Good Own gr all s0 from on end (onto t.told done) n fuel (suc m)
    (is_part g.next.kind) t.left g.next.state (stepped f.flags s) (omega arith) (omega arith)
    (omega arith) next g.same own2
    (λ j i. h (suc j) (omega arith))
    (subst (λ (qs' : List A). AllGood Good qs') (sym b.left) (good_rest Good f.moment (may_interrupt s) m qs good))
    (subst (λ (qs' : List A). Ascend at (suc m) qs') (sym (b.left ∙ drop)) (ascend_rest at m qs up)))

uninterrupted_more : (flags m n : ℕ) (s : State)
    → uninterrupted flags n (uninterrupted flags m s) ≡ uninterrupted flags (m + n) s
uninterrupted_more flags zero n s = let e : n ≡ 0 + n = omega arith in ap (λ (k : ℕ). uninterrupted flags k s) e
uninterrupted_more flags (suc m) n s = let e : suc (m + n) ≡ suc m + n = omega arith in
    uninterrupted_more flags m n (stepped flags s) ∙ ap (λ (k : ℕ). uninterrupted flags k s) e

pub run_follows : (S A B : Type 0) (marks : Marks) (open_to : ℕ → Bool) (f : Form S A B) (P : State → Type 0)
    (Good : A → Type 0) (Own : List (A × B) → State → Type 0)
    → Ground marks open_to f P Good Own
    → RunFollows marks open_to f P Good Own
run_follows S A B marks open_to f P Good Own gr done m n all most qs w s le good up l own go =
    let at : A → ℕ = taken_at f.flags f.moment all s in
    let r =
    along marks open_to f P Good Own gr all s m go.on go.ended done n most m (is_inside f.flags s m) qs w
    (uninterrupted f.flags m s) (omega arith) le go.sum refl l own go.holds good up in
    subst (λ (x : Ran A B). Follows marks open_to f Own done m n all qs s x) (sym r.goes) (record {
      arrived = r.arrived;
      steps = r.steps;
      instrs = r.instrs;
      resumed = r.resumed ∙ resumed_whole at f.flags s m n all qs go.sum up;
      frames = r.frames ∙ frames_whole at f.flags s m n all qs go.sum up;
      taken = r.taken ∙ taken_whole at m n all qs go.sum up;
      left = r.left ∙ left_whole at m n all qs go.sum up;
      told = r.told;
      simulates = r.simulates;
      boundaries = r.boundaries;
      owns = r.owns;
      last = subst (λ (u : State). Same open_to r.ran.state u)
          (uninterrupted_more f.flags m n s ∙ ap (λ (k : ℕ). uninterrupted f.flags k s) go.sum) r.last;
      own = r.own;
    })

-- the same from boundary 0
pub run_follows_whole : (S A B : Type 0) (marks : Marks) (open_to : ℕ → Bool) (f : Form S A B) (P : State → Type 0)
    (Good : A → Type 0) (Own : List (A × B) → State → Type 0)
    → Ground marks open_to f P Good Own
    → (done : List (A × B)) (n most : ℕ) (qs : List A) (w s : State) → n ≤ most → AllGood Good qs → Ascend f.moment 0 qs
    → Same open_to w s → Own done w
    → Completes P f 0 n n s
    → Follows marks open_to f Own done 0 n n qs s (run_from f most 0 false qs w)
run_follows_whole S A B marks open_to f P Good Own gr done n most qs w s le good up l own go =
    run_follows S A B marks open_to f P Good Own gr done 0 n n most qs w s le good
    (taken_ascend f.flags n s f.moment 0 0 qs (omega arith) up) l own go

-- All that is taken at one boundary.
use Rattle.std.proofs.Common.{◌≡◌, ℕ, Bool, true, false, ◌&&◌, nat_le, List, [], ◌∷◌, refl, ap, ap₂, sym, ◌∙◌, subst}
use Rattle.std.proofs.Common.{inl, inr}
use Rattle.std.specs.Prelude.{if◌then◌else◌}
use Rattle.std.proofs.lemmas.Bool.{and_parts, cases_Bool}
use Rattle.cpu12_parts.specs.State.{State}
use Rattle.cpu12_emul.specs.Take.{FrameSeen, frame_of, may_interrupt}
use Rattle.cpu12_emul.specs.Simulation.{Marks, Simulates}
use Rattle.run_law.specs.Forms.{Form, Taking, takes, taken, told, put_take}
use Rattle.run_law.specs.{Uninterrupted.expected_frame, Soundness.AllGood}
use Rattle.run_law.specs.Following.{onto, asked, IsToldIn, EachTold}
use Rattle.run_law.proofs.{Grounds.Ground, Takes.Settled, Takes.settled_near, Takes.settled_may, Takes.took_one}

-- what is left of the requests, and the frames and the requests of those that are due
abbrev pub drop_due : {A : Type 0} → (A → ℕ) → Bool → ℕ → List A → List A
drop_due moment o m [] = []
drop_due moment o m (q ∷ qs) = if o && nat_le (moment q) m then drop_due moment o m qs else q ∷ qs

abbrev pub frames_here : {A : Type 0} → (A → ℕ) → Bool → Bool → ℕ → State → List A → List (ℕ × FrameSeen)
frames_here moment o first m s [] = []
frames_here moment o first m s (q ∷ qs) =
    if o && nat_le (moment q) m then (m, expected_frame first s) ∷ frames_here moment o false m s qs else []

abbrev pub taken_here : {A : Type 0} → (A → ℕ) → Bool → ℕ → List A → List A
taken_here moment o m [] = []
taken_here moment o m (q ∷ qs) = if o && nat_le (moment q) m then q ∷ taken_here moment o m qs else []

-- at one boundary
pub record Boundary {S A B : Type 0} (marks : Marks) (open_to : ℕ → Bool) (f : Form S A B)
    (Own : List (A × B) → State → Type 0) (done : List (A × B)) (m : ℕ) (first : Bool) (qs : List A)
    (w s : State) : Type 0 where
  pub simulates : Simulates marks open_to (takes f m qs w).state s
  pub left : (takes f m qs w).left ≡ drop_due f.moment (may_interrupt s) m qs
  pub frames : (takes f m qs w).frames ≡ frames_here f.moment (may_interrupt s) first m s qs
  pub taken : asked (takes f m qs w).told ≡ taken_here f.moment (may_interrupt s) m qs
  pub told : EachTold (IsToldIn open_to f Own s) done (takes f m qs w).told
  pub own : Own (onto (takes f m qs w).told done) (takes f m qs w).state

pub boundary : {S A B : Type 0} (marks : Marks) (open_to : ℕ → Bool) (f : Form S A B) (P : State → Type 0)
    (Good : A → Type 0) (Own : List (A × B) → State → Type 0) → Ground marks open_to f P Good Own
    → (done : List (A × B)) (m : ℕ) (first : Bool) (qs : List A) (w s : State) → AllGood Good qs → P s
    → Settled marks open_to first w s → Own done w → Boundary marks open_to f Own done m first qs w s
unfolding takes
boundary marks open_to f P Good Own gr done m first [] w s good ps l own =
    record {
      simulates = settled_near marks open_to first w s l;
      left = refl;
      frames = refl;
      taken = refl;
      told = tt;
      own = own;
    }
boundary {S = S} {A = A} {B = B} marks open_to f P Good Own gr done m first (q ∷ qs) w s good ps l own =
    let may = settled_may marks open_to first w s l in
    elim (cases_Bool (may_interrupt s && nat_le (f.moment q) m)) [
      | inl due ↦
          let t = took_one marks open_to f P Good Own gr first done q w s good.0 ps
          (and_parts (may_interrupt s) (nat_le (f.moment q) m) due).0 l own in
          let r = boundary marks open_to f P Good Own gr (told f q w ∷ done) m false qs
          (taken f q w) s good.1 ps t.after t.own in
          let both : (may_interrupt w && nat_le (f.moment q) m) ≡ true =
          ap (λ (x : Bool). x && nat_le (f.moment q) m) may ∙ due in
          let e : takes f m (q ∷ qs) w ≡ put_take (m, frame_of w) (told f q w) (takes f m qs (taken f q w)) =
          rw both refl in
          record {
            simulates = subst (λ (k : Taking A B). Simulates marks open_to k.state s) (sym e) r.simulates;
            left = ap (λ (k : Taking A B). k.left) e ∙ r.left ∙ sym (rw due refl);
            frames = ap (λ (k : Taking A B). k.frames) e
                ∙ ap₂ (λ (g : FrameSeen) (fs : List (ℕ × FrameSeen)). (m, g) ∷ fs) t.frame r.frames ∙ sym (rw due refl);
            taken = ap (λ (k : Taking A B). asked k.told) e ∙ ap (λ (xs : List A). q ∷ xs) r.taken ∙ sym (rw due refl);
            told = subst (λ (k : Taking A B). EachTold (IsToldIn open_to f Own s) done k.told) (sym e)
                (t.tells, r.told);
            own = subst (λ (k : Taking A B). Own (onto k.told done) k.state) (sym e) r.own;
          }
      | inr not_due ↦
          let both : (may_interrupt w && nat_le (f.moment q) m) ≡ false =
          ap (λ (x : Bool). x && nat_le (f.moment q) m) may ∙ not_due in
          let e : takes f m (q ∷ qs) w ≡ record { state = w; frames = []; told = []; left = q ∷ qs } = rw both refl in
          record {
            simulates = subst (λ (k : Taking A B). Simulates marks open_to k.state s) (sym e)
                (settled_near marks open_to first w s l);
            left = ap (λ (k : Taking A B). k.left) e ∙ sym (rw not_due refl);
            frames = ap (λ (k : Taking A B). k.frames) e ∙ sym (rw not_due refl);
            taken = ap (λ (k : Taking A B). asked k.told) e ∙ sym (rw not_due refl);
            told = subst (λ (k : Taking A B). EachTold (IsToldIn open_to f Own s) done k.told) (sym e) tt;
            own = subst (λ (k : Taking A B). Own (onto k.told done) k.state) (sym e) own;
          }
    ]

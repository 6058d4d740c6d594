-- What holds of all that was told, where placed bytes stand, the requests of a sample, parts of what is shown, and
-- requests that are taken and left.
use Rattle.std.proofs.Common.{◌≡◌, ℕ, zero, suc, ◌+◌, ◌<◌, ◌≤◌, ◌&&◌, nat_le, inl, inr, true, false, Bool, Result, Ok}
use Rattle.std.proofs.Common.{Err}
use Rattle.std.proofs.Common.{List, [], ◌∷◌, ◌++◌, map, length, append_assoc, refl, ap, ◌∙◌, arith}
use Rattle.std.specs.Prelude.{All, if◌then◌else◌}
use Rattle.std.proofs.lemmas.Bool.Decides.{nat_tests}
use Rattle.std.proofs.lemmas.List.Elements.{All-cons}
use Rattle.std.proofs.lemmas.List.{map-append}
use Rattle.cpu12_isa.specs.{Agreement.IsWritten, Memory.plus, Memory.placed}
use Rattle.cpu12_parts.specs.State.{State}
use Rattle.cpu12_emul.specs.{Step.Next, Step.next_of, Step.is_part, Take.may_interrupt}
use Rattle.run_law.specs.Forms.{Form, Taking, Ran, takes, taken, then_rest, run_from, RowSeen}
use Rattle.run_law.specs.Following.{asked, onto, all_onto}
use Rattle.run_forms.specs.{Forms.sample_in, Rows.is_of, Rows.of_sample, Rows.shown_rows, Rows.tellings}

-- what holds of all that was told holds of each sample's
onto_all : {C : Type 0} (P : C → Type 0) (xs done : List C) → All P (onto xs done) → All P xs × All P done
onto_all P [] done h = (λ k x lt. absurd (omega arith), h)
onto_all P (x ∷ xs) done h =
    let rest = onto_all P xs (x ∷ done) h in
    let here = rest.1 in
    (All-cons P x xs (here 0 x (omega arith)) rest.0, λ k y lt. here (suc k) y (omega arith))

pub all_onto_all : {C : Type 0} (P : C → Type 0) (xss : List (List C)) (done : List C) → All P (all_onto xss done)
    → All (All P) xss × All P done
all_onto_all P [] done h = (λ k x lt. absurd (omega arith), h)
all_onto_all P (xs ∷ xss) done h =
    let rest = all_onto_all P xss (onto xs done) h in
    let here = onto_all P xs done rest.1 in
    (All-cons (All P) xs xss here.0 rest.0, here.1)

-- where placed bytes stand
pub placed_in : (vs : List ℕ) (p at : ℕ) → p + length vs ≤ 0x10000 → IsWritten (placed p vs) at
    → (p ≤ at) × (at < p + length vs)
placed_in [] p at l w = absurd w
placed_in (v ∷ vs) p at l (inl e) = (omega arith, omega arith)
placed_in (v ∷ []) p at l (inr w) = absurd w
placed_in (v ∷ (u ∷ vs)) p at l (inr w) =
    let next : plus p 1 + length (u ∷ vs) ≤ 0x10000 = omega arith in
    let r = placed_in (u ∷ vs) (plus p 1) at next w in
    (omega (arith, r.0), omega (arith, r.1))

-- a request is of a sample, or is not
pub is_other : {A : Type 0} (place : A → ℕ × ℕ) (k : ℕ) (r : A) → (sample_in place r ≡ k → ⊥) → is_of place k r ≡ false
is_other place k r e = grind (arith, nat_tests)

pub one_is : {A : Type 0} (place : A → ℕ × ℕ) (k : ℕ) (r : A) → is_of place k r ≡ true → sample_in place r ≡ k
one_is place k r e = grind (arith, nat_tests)

pub other_is : {A : Type 0} (place : A → ℕ × ℕ) (k : ℕ) (r : A) → is_of place k r ≡ false → sample_in place r ≡ k → ⊥
other_is place k r e = grind (arith, nat_tests)

pub of_here : {A : Type 0} (place : A → ℕ × ℕ) (k : ℕ) (r : A) (rs : List A) → is_of place k r ≡ true
    → of_sample place k (r ∷ rs) ≡ r ∷ of_sample place k rs
of_here place k r rs e = ap (λ (b : Bool). if b then r ∷ of_sample place k rs else of_sample place k rs) e

pub of_not : {A : Type 0} (place : A → ℕ × ℕ) (k : ℕ) (r : A) (rs : List A) → is_of place k r ≡ false
    → of_sample place k (r ∷ rs) ≡ of_sample place k rs
of_not place k r rs e = ap (λ (b : Bool). if b then r ∷ of_sample place k rs else of_sample place k rs) e

-- a part of what is shown of each row
pub map-shown_rows : {S A B T C : Type 0} (part : T → C) (shows : RowSeen S → List B → T) (rows : List (RowSeen S))
    (tss : List (List (A × B)))
    → map part (shown_rows shows rows tss) ≡ shown_rows (λ row told. part (shows row told)) rows tss
map-shown_rows part shows [] tss = refl
map-shown_rows part shows (row ∷ rows) [] = refl
map-shown_rows {C = C} part shows (row ∷ rows) (ts ∷ tss) =
    ap (λ (cs : List C). part (shows row (tellings ts)) ∷ cs) (map-shown_rows part shows rows tss)

-- the requests that are taken at a boundary come before those that are left
takes_by : {S A B : Type 0} (b : Bool) (f : Form S A B) (m : ℕ) (q : A) (qs : List A) (s : State)
    → (may_interrupt s && nat_le (f.moment q) m) ≡ b
    → asked (takes f m qs (taken f q s)).told ++ (takes f m qs (taken f q s)).left ≡ qs
    → asked (takes f m (q ∷ qs) s).told ++ (takes f m (q ∷ qs) s).left ≡ q ∷ qs
unfolding takes
takes_by {A = A} true f m q qs s e r = rw e (ap (λ (xs : List A). q ∷ xs) r)
takes_by false f m q qs s e r = rw e refl

pub taken_told : {S A B : Type 0} (f : Form S A B) (m : ℕ) (qs : List A) (s : State)
    → asked (takes f m qs s).told ++ (takes f m qs s).left ≡ qs
unfolding takes
taken_told f m [] s = refl
taken_told f m (q ∷ qs) s =
    takes_by (may_interrupt s && nat_le (f.moment q) m) f m q qs s refl (taken_told f m qs (taken f q s))

-- so do those that are taken in a run
rest_told : {A B : Type 0} (inside : Bool) (b : Taking A B) (rest : Bool → State → Ran A B) (o : Result Next ℕ)
    (qs : List A) → asked b.told ++ b.left ≡ qs
    → ((i : Bool) (u : State) → asked (rest i u).told ++ (rest i u).left ≡ b.left)
    → asked (then_rest inside b rest o).told ++ (then_rest inside b rest o).left ≡ qs
rest_told {A = A} {B = B} inside b rest (Ok next) qs e r =
    let k : Ran A B = rest (is_part next.kind) next.state in
    ap (λ (xs : List A). xs ++ k.left) (map-append (λ (t : A × B). t.0) b.told k.told)
    ∙ append_assoc (asked b.told) (asked k.told) k.left
    ∙ ap (λ (xs : List A). asked b.told ++ xs) (r (is_part next.kind) next.state) ∙ e
rest_told inside b rest (Err byte) qs e r = e

ran_by : {S A B : Type 0} (e : Bool) (f : Form S A B) (n m : ℕ) (inside : Bool) (qs : List A) (s : State)
    → f.ends m s ≡ e
    → ((qs2 : List A) (i : Bool) (u : State)
    → asked (run_from f n (suc m) i qs2 u).told ++ (run_from f n (suc m) i qs2 u).left ≡ qs2)
    → asked (run_from f (suc n) m inside qs s).told ++ (run_from f (suc n) m inside qs s).left ≡ qs
unfolding run_from
ran_by true f n m inside qs s e r = rw e refl
ran_by {A = A} {B = B} false f n m inside qs s e r =
    let b : Taking A B = takes f m qs s in
    rw e (rest_told inside b (λ i u. run_from f n (suc m) i b.left u) (next_of f.flags b.state) qs
    (taken_told f m qs s) (r b.left))

pub ran_told : {S A B : Type 0} (f : Form S A B) (n m : ℕ) (inside : Bool) (qs : List A) (s : State)
    → asked (run_from f n m inside qs s).told ++ (run_from f n m inside qs s).left ≡ qs
unfolding run_from
ran_told f zero m inside qs s = refl
ran_told f (suc n) m inside qs s =
    ran_by (f.ends m s) f n m inside qs s refl (λ qs2 i u. ran_told f n (suc m) i qs2 u)

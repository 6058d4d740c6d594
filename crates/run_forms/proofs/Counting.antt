-- A run counts no more than its steps, and leaves no more requests than there were.
use Rattle.std.proofs.Common.{◌≡◌, ◌≤◌, ℕ, zero, suc, ◌+◌, Bool, true, false, not, ◌&&◌, Result, Ok, Err, List}
use Rattle.std.proofs.Common.{length, length-append, length-drop, drop, refl, ap, subst, arith}
use Rattle.cpu12_parts.specs.State.{State}
use Rattle.cpu12_emul.specs.Step.{Next, next_of, is_part}
use Rattle.run_law.specs.Forms.{Form, Taking, Ran, takes, one_if, is_empty, then_rest, run_from}
use Rattle.run_law.specs.Following.{asked}
use Rattle.run_forms.specs.{declared.sample.Counts.Counts, Forms.SeenNotes, Rest.SampleSummary}
use Rattle.run_forms.specs.{Rest.rest_at, Rest.counted_at}
use Rattle.run_forms.proofs.Algebra.{ran_told}

pub record CountsFew {A B : Type 0} (n : ℕ) (r : Ran A B) : Type 0 where
  pub steps : r.steps ≤ n
  pub resumed : r.arrived ≡ true → r.resumed ≤ r.steps

most_one : (b : Bool) → one_if b ≤ 1
most_one true = omega arith
most_one false = omega arith

rest_few : {A B : Type 0} (n : ℕ) (inside : Bool) (b : Taking A B) (rest : Bool → State → Ran A B)
    (o : Result Next ℕ) → ((i : Bool) (u : State) → CountsFew n (rest i u))
    → CountsFew (suc n) (then_rest inside b rest o)
rest_few n inside b rest (Ok next) h =
    let k = h (is_part next.kind) next.state in
    let steps = k.steps in
    let one = most_one (inside && not (is_empty b.frames)) in
    record {
      steps = omega (arith, steps);
      resumed = λ e. (let few = k.resumed e in omega (arith, one, few));
    }
rest_few n inside b rest (Err byte) h =
    record { steps = omega arith; resumed = λ e. absurd (let no : false ≡ true = e in cc) }

few_by : {S A B : Type 0} (e : Bool) (f : Form S A B) (n m : ℕ) (inside : Bool) (qs : List A) (s : State)
    → f.ends m s ≡ e
    → ((qs2 : List A) (i : Bool) (u : State) → CountsFew n (run_from f n (suc m) i qs2 u))
    → CountsFew (suc n) (run_from f (suc n) m inside qs s)
unfolding run_from
few_by true f n m inside qs s e h = rw e (record { steps = omega arith; resumed = λ z. omega arith })
few_by {A = A} {B = B} false f n m inside qs s e h =
    let b : Taking A B = takes f m qs s in
    rw e (rest_few n inside b (λ i u. run_from f n (suc m) i b.left u) (next_of f.flags b.state) (h b.left))

pub counts_few : {S A B : Type 0} (f : Form S A B) (n m : ℕ) (inside : Bool) (qs : List A) (s : State)
    → CountsFew n (run_from f n m inside qs s)
unfolding run_from
counts_few f zero m inside qs s = record { steps = omega arith; resumed = λ z. omega arith }
counts_few f (suc n) m inside qs s =
    few_by (f.ends m s) f n m inside qs s refl (λ qs2 i u. counts_few f n (suc m) i qs2 u)

-- so does what was counted to its end
pub record CountedFew {U : Type 0} (n : ℕ) (t t2 : Counts U) : Type 0 where
  pub most : t2.moment ≤ t.moment + n
  pub resumed : t2.arrived ≡ true → t.resumed ≤ t.moment → t2.resumed ≤ t2.moment

pub counted_few : {S A U B : Type 0} (f : Form S A B) (seen : SeenNotes U B) (n : ℕ) (qs : List A) (t t2 : Counts U)
    (s s2 : State)
    → counted_at seen t2 s2 ≡ rest_at seen f n qs t s → CountedFew n t t2
counted_few {B = B} f seen n qs t t2 s s2 e =
    let k = counts_few f n t.moment t.inside (drop t.next qs) s in
    let steps = ap (λ (b : SampleSummary B). b.steps) e in
    let few = k.steps in
    record {
      most = omega (arith, steps, few);
      resumed = λ a l.
          (let resumed = ap (λ (b : SampleSummary B). b.resumed) e in
          let arrived : (run_from f n t.moment t.inside (drop t.next qs) s).arrived ≡ true =
          subst (λ (b : Bool). b ≡ true) (ap (λ (b : SampleSummary B). b.arrived) e) a in
          let less = k.resumed arrived in
          omega (arith, steps, resumed, less, l));
    }

-- and the next of the requests does not fall
pub next_on : {S A B : Type 0} (f : Form S A B) (n m : ℕ) (inside : Bool) (qs : List A) (i j : ℕ) (s : State)
    → i ≤ length qs → j ≤ length qs → drop j qs ≡ (run_from f n m inside (drop i qs) s).left → i ≤ j
next_on {A = A} {B = B} f n m inside qs i j s within there e =
    let r : Ran A B = run_from f n m inside (drop i qs) s in
    let all = ap (λ (l : List A). length l) (ran_told f n m inside (drop i qs) s) in
    let both = length-append (asked r.told) r.left in
    let same = ap (λ (l : List A). length l) e in
    let a = length-drop i qs in
    let b = length-drop j qs in
    omega (arith, all, both, same, a, b, within, there)

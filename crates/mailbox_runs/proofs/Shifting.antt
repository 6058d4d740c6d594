-- A run with boundaries counted from a later one.
use Rattle.mailbox_runs.proofs.Words.{[], ◌&&◌, ◌++◌, ◌+◌, ◌-◌, ◌∙◌, ◌∷◌, ◌≡◌, ◌≤◌, ap, ap₂, arith, Bool, false}
use Rattle.mailbox_runs.proofs.Words.{frame_of, frames_from, FrameSeen, if◌then◌else◌, is_empty, is_part, List}
use Rattle.mailbox_runs.proofs.Words.{map-append, may_interrupt, nat_le, nat_tests, Next, next_of, not, Ok, one_if}
use Rattle.mailbox_runs.proofs.Words.{put_take, Ran, ran_from, refl, Result, run_from, State, suc, sym, taken, takes}
use Rattle.mailbox_runs.proofs.Words.{Taking, told, true, zero, ℕ}
use Rattle.std.proofs.{Common.Err}
use Rattle.run_law.specs.{Forms.Form, Forms.then_rest, Forms.ended}
use Rattle.mailbox_runs.specs.{Shifts.counted_from, Shifts.RunsCountOn}

module _ {S A B : Type 0} (f : Form S A B) (g : ℕ) where
  abbrev taking_from : Taking A B → Taking A B
  taking_from b = record { state = b.state; frames = frames_from g b.frames; told = b.told; left = b.left }

  due_by : (a m : ℕ) → nat_le a (g + m) ≡ nat_le (a - g) m
  due_by a m = cases (nat_le a (g + m)) refl
    where
      cases : (b : Bool) → nat_le a (g + m) ≡ b → nat_le a (g + m) ≡ nat_le (a - g) m
      cases true e = (let h : a ≤ g + m = grind (arith, nat_tests) in
          let k : nat_le (a - g) m ≡ true = grind (arith, nat_tests) in e ∙ sym k)
      cases false e = (let k : nat_le (a - g) m ≡ false = grind (arith, nat_tests) in e ∙ sym k)

  one_by : (b : Bool) (m : ℕ) (q : A) (qs : List A) (s : State)
      → takes f (g + m) qs (taken f q s) ≡ taking_from (takes (counted_from g f) m qs (taken f q s))
      → (if b then put_take (g + m, frame_of s) (told f q s) (takes f (g + m) qs (taken f q s)) else record
      { state = s; frames = []; told = []; left = q ∷ qs })
      ≡ taking_from (if b then put_take (m, frame_of s) (told f q s) (takes (counted_from g f) m qs (taken f q s)) else
      record { state = s; frames = []; told = []; left = q ∷ qs })
  one_by true m q qs s r = ap (λ (b : Taking A B). put_take (g + m, frame_of s) (told f q s) b) r
  one_by false m q qs s r = refl

  takes_from : (m : ℕ) (qs : List A) (s : State) → takes f (g + m) qs s ≡ taking_from (takes (counted_from g f) m qs s)
  unfolding takes
  takes_from m [] s = refl
  takes_from m (q ∷ qs) s =
      ap (λ (b : Bool). if may_interrupt s && b then put_take (g + m, frame_of s) (told f q s)
      (takes f (g + m) qs (taken f q s)) else record { state = s; frames = []; told = []; left = q ∷ qs })
      (due_by (f.moment q) m)
      ∙ one_by (may_interrupt s && nat_le (f.moment q - g) m) m q qs s (takes_from m qs (taken f q s))

  empty_from : (fs : List (ℕ × FrameSeen)) → is_empty (frames_from g fs) ≡ is_empty fs
  empty_from [] = refl
  empty_from (x ∷ fs) = refl

  rest_by : (inside : Bool) (b : Taking A B) (rest rest2 : Bool → State → Ran A B) (o : Result Next ℕ)
      → ((i : Bool) (u : State) → rest i u ≡ ran_from g (rest2 i u))
      → then_rest inside (taking_from b) rest o ≡ ran_from g (then_rest inside b rest2 o)
  rest_by inside b rest rest2 (Ok next) r =
      let k = rest2 (is_part next.kind) next.state in
      ap (λ (x : Ran A B). then_rest inside (taking_from b) (λ i u. x) (Ok next)) (r (is_part next.kind) next.state)
      ∙ ap₂ (λ (e : Bool) (fs : List (ℕ × FrameSeen)). counted_by e fs k) (empty_from b.frames)
      (sym (map-append (λ (x : ℕ × FrameSeen). (g + x.0, x.1)) b.frames k.frames))
    where
      counted_by : Bool → List (ℕ × FrameSeen) → Ran A B → Ran A B
      counted_by e fs k = record {
        arrived = k.arrived;
        state = k.state;
        states = b.state ∷ k.states;
        instrs = one_if (not (is_part next.kind)) + k.instrs;
        steps = suc k.steps;
        resumed = one_if (inside && not e) + k.resumed;
        frames = fs;
        told = b.told ++ k.told;
        left = k.left;
      }
  rest_by inside b rest rest2 (Err byte) r = ap by (empty_from b.frames)
    where
      by : Bool → Ran A B
      by e = record {
        arrived = false;
        state = b.state;
        states = b.state ∷ [];
        instrs = 0;
        steps = 0;
        resumed = one_if (inside && not e);
        frames = frames_from g b.frames;
        told = b.told;
        left = b.left;
      }

  on_by : (e : Bool) (qs : List A) (s : State) (x y : Ran A B) → x ≡ ran_from g y
      → (if e then ended true qs s else x) ≡ ran_from g (if e then ended true qs s else y)
  on_by true qs s x y r = refl
  on_by false qs s x y r = r

  count_on : (n m : ℕ) (inside : Bool) (qs : List A) (s : State)
      → run_from f n (g + m) inside qs s ≡ ran_from g (run_from (counted_from g f) n m inside qs s)
  unfolding run_from
  count_on zero m inside qs s = refl
  count_on (suc n) m inside qs s =
      let next : suc (g + m) ≡ g + suc m = omega arith in
      let b = takes f (g + m) qs s in
      let c = takes (counted_from g f) m qs s in
      let same : b ≡ taking_from c = takes_from m qs s in
      let rest : then_rest inside b (λ i u. run_from f n (suc (g + m)) i b.left u) (next_of f.flags b.state)
      ≡ ran_from g (then_rest inside c (λ i u. run_from (counted_from g f) n (suc m) i c.left u)
      (next_of f.flags c.state)) =
      ap (λ (x : Taking A B). then_rest inside x (λ i u. run_from f n (suc (g + m)) i x.left u)
      (next_of f.flags x.state)) same
      ∙ rest_by inside c (λ i u. run_from f n (suc (g + m)) i c.left u)
      (λ i u. run_from (counted_from g f) n (suc m) i c.left u) (next_of f.flags c.state)
      (λ i u. ap (λ (k : ℕ). run_from f n k i c.left u) next ∙ count_on n (suc m) i c.left u) in
      on_by (f.ends (g + m) s) qs s _ _ rest

pub runs_count_on : (S A B : Type 0) → RunsCountOn S A B
runs_count_on S A B f g n m inside qs s = count_on f g n m inside qs s

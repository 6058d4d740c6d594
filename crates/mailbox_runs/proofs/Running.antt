-- What is told of posts, and a run by its next turn.
use Rattle.mailbox_runs.proofs.Words.{[], ◌&&◌, ◌++◌, ◌+◌, ◌-◌, ◌==◌, ◌∙◌, ◌∷◌, ◌≡◌, ◌≤◌, answers_by, AnswerSeen, ap}
use Rattle.mailbox_runs.proofs.Words.{ap₂, arith, asked, behind, bytes_of, drop, false, Firmware, FrameSeen}
use Rattle.mailbox_runs.proofs.Words.{is_empty, is_over, length, length-append, List, nat_tests, no_turn, Post, Ran}
use Rattle.mailbox_runs.proofs.Words.{refl, run_from, slice_index, State, suc, sym, take, takes, Taking, TakingSummary}
use Rattle.mailbox_runs.proofs.Words.{then_turns, true, turn_form, TurnForm, turns_from, up_to, values_in, waiting}
use Rattle.mailbox_runs.proofs.Words.{waits_by}
use Rattle.mailbox_runs.proofs.Words.{with_before, zero, ℕ}
use Rattle.std.proofs.{Common.length-drop}
use Rattle.run_forms.proofs.Algebra.{taken_told}

-- posts before those that are left are a slice of them
front_of : (xs ys : List Post) → take (length xs) (xs ++ ys) ≡ xs
front_of [] ys = refl
front_of (x ∷ xs) ys = ap (λ (l : List Post). x ∷ l) (front_of xs ys)

pub slice_is : (posts xs : List Post) (i j : ℕ) → i ≤ j → j ≤ length posts → xs ++ drop j posts ≡ drop i posts
    → take (j - i) (drop i posts) ≡ xs
slice_is posts xs i j le lt e =
    let a = length-append xs (drop j posts) in
    let b = length-drop j posts in
    let c = length-drop i posts in
    let d = ap (λ (l : List Post). length l) e in
    let n : j - i ≡ length xs = omega (arith, a, b, c, d, le, lt) in
    ap₂ (λ (k : ℕ) (l : List Post). take k l) n (sym e) ∙ front_of xs (drop j posts)

-- what is taken at a boundary is the slice of them up to those that are left
pub taken_slice : (flags : ℕ) (f : Firmware) (samples : List (List ℕ)) (g m : ℕ) (posts : List Post) (s s1 : State)
    (fs fs1 : List (ℕ × FrameSeen)) (us us1 : List (Unit {0})) (i j : ℕ)
    → with_before fs us (takes (turn_form flags f samples g) m (drop i posts) s)
    ≡ record { state = s1; frames = fs1; told = us1; left = drop j posts }
    → (i ≤ j) × (j ≤ length posts)
    → take (j - i) (drop i posts) ≡ asked (takes (turn_form flags f samples g) m (drop i posts) s).told
taken_slice flags f samples g m posts s s1 fs fs1 us us1 i j te next =
    let b : Taking Post (Unit {0}) = takes (turn_form flags f samples g) m (drop i posts) s in
    slice_is posts (asked b.told) i j next.0 next.1
    (ap (λ (l : List Post). asked b.told ++ l) (sym (ap (λ (k : TakingSummary Post (Unit {0})). k.left) te))
    ∙ taken_told (turn_form flags f samples g) m (drop i posts) s)

-- a run that is over
pub run_over : (flags : ℕ) (f : Firmware) (samples : List (List ℕ)) (last n g w : ℕ) (qs : List Post) (s : State)
    → is_over f.memory_map (takes (turn_form flags f samples g) g qs s) ≡ true
    → turns_from flags f samples last (suc n) g w qs s ≡ no_turn true
    (takes (turn_form flags f samples g) g qs s).frames 0
unfolding turns_from
run_over flags f samples last n g w qs s e = rw e refl

pub run_on : (flags : ℕ) (f : Firmware) (samples : List (List ℕ)) (last n g w : ℕ) (qs : List Post) (s : State)
    → is_over f.memory_map (takes (turn_form flags f samples g) g qs s) ≡ false
    → turns_from flags f samples last (suc n) g w qs s
    ≡ then_turns f samples g (waiting w (asked (takes (turn_form flags f samples g) g qs s).told))
    (takes (turn_form flags f samples g) g qs s).frames
    (run_from (turn_form flags f samples g) (last - g) g false (takes (turn_form flags f samples g) g qs s).left
    (takes (turn_form flags f samples g) g qs s).state)
    (turns_from flags f samples last n)
unfolding turns_from
run_on flags f samples last n g w qs s e = rw e refl

-- where what is taken leaves these, the sample that waits is v, and the turn is r
pub run_turn : (flags : ℕ) (f : Firmware) (samples : List (List ℕ)) (last n g w v : ℕ) (qs qs1 : List Post)
    (s s1 : State) (fs fs1 : List (ℕ × FrameSeen)) (us us1 : List (Unit {0}))
    → with_before fs us (takes (turn_form flags f samples g) g qs s)
    ≡ record { state = s1; frames = fs1; told = us1; left = qs1 }
    → v ≡ waiting w (asked (takes (turn_form flags f samples g) g qs s).told)
    → (is_empty qs1 && (slice_index s1.mem f.memory_map.sample_flag == 0)) ≡ false
    → turns_from flags f samples last (suc n) g w qs s
    ≡ then_turns f samples g v (takes (turn_form flags f samples g) g qs s).frames
    (run_from (turn_form flags f samples g) (last - g) g false qs1 s1) (turns_from flags f samples last n)
run_turn flags f samples last n g w v qs qs1 s s1 fs fs1 us us1 te ve e =
    let form : TurnForm = turn_form flags f samples g in
    let b : Taking Post (Unit {0}) = takes form g qs s in
    let es : b.state ≡ s1 = ap (λ (k : TakingSummary Post (Unit {0})). k.state) te in
    let el : b.left ≡ qs1 = ap (λ (k : TakingSummary Post (Unit {0})). k.left) te in
    let on : is_over f.memory_map b ≡ false =
    ap₂ (λ (l : List Post) (u : State). is_empty l && (slice_index u.mem f.memory_map.sample_flag == 0)) el es ∙ e in
    run_on flags f samples last n g w qs s on
    ∙ ap₂ (λ (x : ℕ) (r : Ran Post (Unit {0})). then_turns f samples g x b.frames r (turns_from flags f samples last n))
    (sym ve)
    (ap₂ (λ (l : List Post) (u : State). run_from form (last - g) g false l u) el es)

-- whether a post is left
pub some_behind : (posts : List Post) (i : ℕ) → i ≤ length posts → (i ≡ length posts → ⊥)
    → is_empty (drop i posts) ≡ false
some_behind [] zero l e = absurd (e refl)
some_behind [] (suc i) l e = absurd (omega arith)
some_behind (p ∷ ps) zero l e = refl
some_behind (p ∷ ps) (suc i) l e = some_behind ps i (omega arith) (λ z. e (omega (arith, z)))

-- a turn at whose beginning a sample waits
no_zero : (v : ℕ) → (v ≡ 0 → ⊥) → (v == 0) ≡ false
no_zero v e = grind (arith, nat_tests)

pub answered : (f : Firmware) (samples : List (List ℕ)) (g v : ℕ) (taken : List Post) (at instrs : ℕ) (s : State)
    (before : List AnswerSeen) (k : ℕ) (x : AnswerSeen)
    → (v ≡ 0 → ⊥) → k ≡ waiting v (up_to (g + 2) taken)
    → x ≡ record { sample = k; at = at; bytes = bytes_of samples k; values = values_in f s; instrs = instrs }
    → before ++ x ∷ [] ≡ before ++ answers_by f samples g v taken at instrs s
answered f samples g v taken at instrs s before k x some ke xe =
    let e = no_zero v some in
    ap (λ (y : AnswerSeen). before ++ y ∷ []) (xe ∙ ap one ke) ∙ rw e refl
  where
    one : ℕ → AnswerSeen
    one j = record { sample = j; at = at; bytes = bytes_of samples j; values = values_in f s; instrs = instrs }

pub waits_behind : (g v : ℕ) (taken : List Post) → (v ≡ 0 → ⊥) → waits_by g v taken ≡ waiting 0 (behind (g + 2) taken)
waits_behind g v taken some = let e = no_zero v some in rw e refl

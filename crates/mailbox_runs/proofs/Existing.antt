-- Good posts have turns: each turn brings the run nearer to its end.
use Rattle.mailbox_runs.proofs.Words.{[], ◌*◌, ◌++◌, ◌+◌, ◌-◌, ◌<◌, ◌∙◌, ◌∷◌, ◌≡◌, ◌≢◌, ◌≤◌, ◌⊎◌, answers, ap}
use Rattle.mailbox_runs.proofs.Words.{AreTurns, arith, behind, Bool, false, idle, if◌then◌else◌, inl, inr, IsGoodPost}
use Rattle.mailbox_runs.proofs.Words.{length, length-append, List, min, nat_le, nat_tests, over, Post, PostsHaveTurns}
use Rattle.mailbox_runs.proofs.Words.{refl, suc, sym, taken_from, true, Turn, up_to, waiting, zero, ℕ}
use Rattle.std.specs.{Prelude.All, Prelude.◌==◌}
use Rattle.mailbox_runs.proofs.LastOnes.{split, zero_or, not_zero, further}

-- posts that come by a moment
abbrev ComeBy : ℕ → List Post → Type 0
ComeBy m [] = Unit {0}
ComeBy m (p ∷ ps) = (p.moment ≤ m) × ComeBy m ps

come_by : (n : ℕ) (ps : List Post) → All (IsGoodPost n) ps → ComeBy 1000000 ps
come_by n [] good = tt
come_by n (p ∷ ps) good =
    (let own = good 0 p (omega arith) in own.moment_to, come_by n ps (λ k d lt. good (suc k) d (omega arith)))

behind_by : (b : Bool) (m k : ℕ) (p : Post) (ps : List Post) → nat_le p.moment k ≡ b → ComeBy m (behind k ps)
    → ComeBy m (p ∷ ps) → ComeBy m (behind k (p ∷ ps))
behind_by true m k p ps e r by = rw e r
behind_by false m k p ps e r by = rw e by

come_behind : (m k : ℕ) (ps : List Post) → ComeBy m ps → ComeBy m (behind k ps)
come_behind m k [] by = tt
come_behind m k (p ∷ ps) by = behind_by (nat_le p.moment k) m k p ps refl (come_behind m k ps by.1) by

-- where posts are left their moments are to come
left_by : (b : Bool) (m k : ℕ) (p : Post) (ps : List Post) → nat_le p.moment k ≡ b → (behind k ps ≢ [] → k < m)
    → p.moment ≤ m
    → behind k (p ∷ ps) ≢ [] → k < m
left_by true m k p ps e r by some = r (λ z. some (rw e z))
left_by false m k p ps e r by some = grind (arith, nat_tests)

left_later : (m k : ℕ) (ps : List Post) → ComeBy m ps → behind k ps ≢ [] → k < m
left_later m k [] by some = absurd (some refl)
left_later m k (p ∷ ps) by some = left_by (nat_le p.moment k) m k p ps refl (left_later m k ps by.1) by.0 some

-- a sample waits where one did or a post came
few_by : (b : Bool) (w k : ℕ) (xs : List Post)
    → min (waiting (if b then w else k) xs) 1 ≤ min (if b then w else k) 1 + length xs
    → min (waiting (if b then w else k) xs) 1 ≤ suc (length xs)
few_by b w k xs r = omega (arith, r)

few_wait : (w : ℕ) (xs : List Post) → min (waiting w xs) 1 ≤ min w 1 + length xs
few_wait w [] = omega arith
few_wait w (x ∷ xs) =
    let r = few_by (x.sample == 0) w x.sample xs (few_wait (if x.sample == 0 then w else x.sample) xs) in
    omega (arith, r)

empty_or : (xs : List Post) → (xs ≡ []) ⊎ (xs ≢ [])
empty_or [] = inl refl
empty_or (x ∷ xs) = inr (λ e. absurd cc)

parts : (k : ℕ) (ps : List Post) → length (up_to k ps) + length (behind k ps) ≡ length ps
parts k ps = sym (length-append (up_to k ps) (behind k ps)) ∙ ap (λ (l : List Post). length l) (split k ps)

-- how far the end is
abbrev far : ℕ → ℕ → List Post → ℕ
far g w posts = (1000001 - g) + 2 * length posts + min w 1

abbrev Turns : ℕ → (List ℕ → ℕ) → ℕ → ℕ → List ℕ → List Post → Type 0
Turns n steps g w done posts = (turns : List Turn) × AreTurns n steps g w done posts turns

-- an idle turn, and one that answers
idle_nearer : (g w : ℕ) (posts : List Post) → ComeBy 1000000 posts → behind g posts ≢ []
    → far (g + 2) (waiting w (up_to (g + 1) posts)) (behind (g + 1) posts) < far g w posts
idle_nearer g w posts by some =
    let late = left_later 1000000 g posts by some in
    let sum = parts (g + 1) posts in
    let one : min (waiting w (up_to (g + 1) posts)) 1 ≤ 1 = omega arith in
    omega (arith, late, sum, one)

answer_nearer : (g w end : ℕ) (posts : List Post) → waiting w (up_to g posts) ≢ 0 → g ≤ end
    → far end (waiting 0 (up_to (end - 1) (behind (g + 2) posts))) (behind (end - 1) (behind (g + 2) posts))
    < far g w posts
answer_nearer g w end posts some le =
    let rest = behind (g + 2) posts in
    let a = parts (g + 2) posts in
    let b = parts (end - 1) rest in
    let c = few_wait 0 (up_to (end - 1) rest) in
    let d = few_wait w (up_to g posts) in
    let e = not_zero (waiting w (up_to g posts)) some in
    let h = ap (λ (l : List Post). length l) (further g (g + 2) posts (omega arith))
    ∙ length-append (up_to g posts) (up_to (g + 2) (behind g posts)) in
    let z : min 0 1 ≡ 0 = refl in
    omega (arith, a, b, c, d, e, h, le, z)

one_more : (n : ℕ) (steps : List ℕ → ℕ) (g w : ℕ) (done : List ℕ) (posts : List Post) → ComeBy 1000000 posts
    → ((g2 w2 : ℕ) (done2 : List ℕ) (posts2 : List Post) → ComeBy 1000000 posts2 → far g2 w2 posts2 < far g w posts
    → Turns n steps g2 w2 done2 posts2)
    → Turns n steps g w done posts
one_more n steps g w done posts by rest = elim (zero_or (waiting w (up_to g posts))) [
  | inl none ↦ elim (empty_or (behind g posts)) [
    | inl left ↦ (
      record { begin = g; sample = 0; steps = 0; taken = taken_from g posts } ∷ [],
      over g w done posts _ none left refl,
    )
    | inr some ↦
        let r = rest (g + 2) (waiting w (up_to (g + 1) posts)) done (behind (g + 1) posts)
        (come_behind 1000000 (g + 1) posts by) (idle_nearer g w posts by some) in (
          record { begin = g; sample = 0; steps = 2; taken = taken_from g (up_to (g + 1) posts) } ∷ r.0,
          idle g w done posts _ r.0 none some r.1 refl,
        )
  ]
  | inr waits ↦
      let s = waiting w (up_to (g + 2) posts) in
      let end = g + steps (done ++ s ∷ []) in
      let left = behind (g + 2) posts in
      let some : waiting w (up_to g posts) ≢ 0 = λ z. omega (arith, z, waits) in
      let r =
      rest end (waiting 0 (up_to (end - 1) left)) (done ++ s ∷ []) (behind (end - 1) left)
      (come_behind 1000000 (end - 1) left (come_behind 1000000 (g + 2) posts by))
      (answer_nearer g w end posts some (omega arith)) in (
        record {
          begin = g;
          sample = s;
          steps = steps (done ++ s ∷ []);
          taken = taken_from g (up_to (g + 2) posts) ++ taken_from (g + 5 + n) (up_to (end - 1) left);
        } ∷ r.0,
        answers g w done posts _ r.0 s end some refl refl r.1 refl,
      )
]

all_turns : (n : ℕ) (steps : List ℕ → ℕ) (fuel g w : ℕ) (done : List ℕ) (posts : List Post) → ComeBy 1000000 posts
    → far g w posts ≤ fuel → Turns n steps g w done posts
all_turns n steps zero g w done posts by le =
    one_more n steps g w done posts by (λ g2 w2 done2 posts2 by2 lt. absurd (omega (arith, le, lt)))
all_turns n steps (suc fuel) g w done posts by le =
    one_more n steps g w done posts by
    (λ g2 w2 done2 posts2 by2 lt. all_turns n steps fuel g2 w2 done2 posts2 by2 (omega (arith, le, lt)))

pub posts_have_turns : PostsHaveTurns
posts_have_turns n samples steps posts good =
    all_turns n steps (far 0 0 posts) 0 0 [] posts (come_by samples posts good.posts_are) (omega arith)

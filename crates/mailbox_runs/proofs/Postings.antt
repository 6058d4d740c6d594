-- Posts in their order, and the writes of one.
use Rattle.mailbox_runs.proofs.Words.{[], ◌+◌, ◌-◌, ◌==◌, ◌∙◌, ◌∷◌, ◌≡◌, ◌≤◌, All-cons, ap}
use Rattle.mailbox_runs.proofs.Words.{arith, behind, Bool, drop, false, if◌then◌else◌, IsGoodPost, length}
use Rattle.mailbox_runs.proofs.Words.{List, nat_le, nat_tests, Post, refl, subst, suc, sym, take, true, up_to}
use Rattle.mailbox_runs.proofs.Words.{waiting, zero, ℕ}
use Rattle.std.specs.{Prelude.min, Prelude.All}

-- the first posts, and those behind them
front_by : (b : Bool) (k : ℕ) (p : Post) (ps : List Post) → nat_le p.moment k ≡ b
    → take (length (up_to k ps)) ps ≡ up_to k ps
    → take (length (up_to k (p ∷ ps))) (p ∷ ps) ≡ up_to k (p ∷ ps)
front_by true k p ps e r = rw e (ap (λ (xs : List Post). p ∷ xs) r)
front_by false k p ps e r = rw e refl

first_posts : (k : ℕ) (ps : List Post) → take (length (up_to k ps)) ps ≡ up_to k ps
first_posts k [] = refl
first_posts k (p ∷ ps) = front_by (nat_le p.moment k) k p ps refl (first_posts k ps)

behind_by : (b : Bool) (k : ℕ) (p : Post) (ps : List Post) → nat_le p.moment k ≡ b
    → drop (length (up_to k ps)) ps ≡ behind k ps
    → drop (length (up_to k (p ∷ ps))) (p ∷ ps) ≡ behind k (p ∷ ps)
behind_by true k p ps e r = rw e r
behind_by false k p ps e r = rw e refl

pub posts_behind : (k : ℕ) (ps : List Post) → drop (length (up_to k ps)) ps ≡ behind k ps
posts_behind k [] = refl
posts_behind k (p ∷ ps) = behind_by (nat_le p.moment k) k p ps refl (posts_behind k ps)

-- all of the first posts
first_by : (b : Bool) (n w k : ℕ) (p : Post) (ps : List Post) → nat_le p.moment k ≡ b → w ≤ n
    → waiting (if p.sample == 0 then w else p.sample) (up_to k ps) ≤ n → waiting w (up_to k (p ∷ ps)) ≤ n
first_by true n w k p ps e h r = rw e r
first_by false n w k p ps e h r = rw e h

picked_within : (b : Bool) (n w s : ℕ) → w ≤ n → s ≤ n → (if b then w else s) ≤ n
picked_within true n w s h g = h
picked_within false n w s h g = g

pub first_within : (n w k : ℕ) (ps : List Post) → w ≤ n → All (IsGoodPost n) ps → waiting w (up_to k ps) ≤ n
first_within n w k [] h all = h
first_within n w k (p ∷ ps) h all =
    let good : IsGoodPost n p = all 0 p (omega arith) in
    first_by (nat_le p.moment k) n w k p ps refl h
    (first_within n (if p.sample == 0 then w else p.sample) k ps
    (picked_within (p.sample == 0) n w p.sample h good.sample_to) (λ j d lt. all (suc j) d (omega arith)))

behind_within_by : (b : Bool) (n k : ℕ) (p : Post) (ps : List Post) → nat_le p.moment k ≡ b
    → All (IsGoodPost n) (p ∷ ps)
    → waiting 0 (behind k ps) ≤ n → waiting 0 (p ∷ ps) ≤ n → waiting 0 (behind k (p ∷ ps)) ≤ n
behind_within_by true n k p ps e all r q = rw e r
behind_within_by false n k p ps e all r q = rw e q

-- which sample waits
waits_within : (n w : ℕ) (ps : List Post) → w ≤ n → All (IsGoodPost n) ps → waiting w ps ≤ n
waits_within n w [] h all = h
waits_within n w (p ∷ ps) h all =
    let good : IsGoodPost n p = all 0 p (omega arith) in
    waits_within n (if p.sample == 0 then w else p.sample) ps
    (picked_within (p.sample == 0) n w p.sample h good.sample_to) (λ k d lt. all (suc k) d (omega arith))

behind_waits_within : (n k : ℕ) (ps : List Post) → All (IsGoodPost n) ps → waiting 0 (behind k ps) ≤ n
behind_waits_within n k [] all = omega arith
behind_waits_within n k (p ∷ ps) all =
    behind_within_by (nat_le p.moment k) n k p ps refl all
    (behind_waits_within n k ps (λ j d lt. all (suc j) d (omega arith)))
    (waits_within n 0 (p ∷ ps) (omega arith) all)

picked_some : (b : Bool) (w s : ℕ) → (s == 0) ≡ b → 1 ≤ w → 1 ≤ (if b then w else s)
picked_some true w s e h = h
picked_some false w s e h = grind (arith, nat_tests)

pub waits_some : (w : ℕ) (ps : List Post) → 1 ≤ w → 1 ≤ waiting w ps
waits_some w [] h = h
waits_some w (p ∷ ps) h =
    waits_some (if p.sample == 0 then w else p.sample) ps (picked_some (p.sample == 0) w p.sample refl h)

pub at_most_one : (n : ℕ) → min n 1 ≤ 1
at_most_one n = omega arith

waits_few : (w : ℕ) (ps : List Post) → min (waiting w ps) 1 ≤ min w 1 + length ps
waits_few w [] = omega arith
waits_few w (p ∷ ps) =
    let r = waits_few (if p.sample == 0 then w else p.sample) ps in
    let k = at_most_one (if p.sample == 0 then w else p.sample) in
    omega (arith, r, k)

behind_less_by : (b : Bool) (k : ℕ) (p : Post) (ps : List Post) → nat_le p.moment k ≡ b
    → length (behind k ps) ≤ length ps
    → length (behind k (p ∷ ps)) ≤ length (p ∷ ps)
behind_less_by true k p ps e r = rw e (omega (arith, r))
behind_less_by false k p ps e r = rw e (omega arith)

pub behind_less : (k : ℕ) (ps : List Post) → length (behind k ps) ≤ length ps
behind_less k [] = omega arith
behind_less k (p ∷ ps) = behind_less_by (nat_le p.moment k) k p ps refl (behind_less k ps)

behind_few : (k : ℕ) (ps : List Post) → min (waiting 0 (behind k ps)) 1 ≤ length ps
behind_few k ps = let a = waits_few 0 (behind k ps) in let b = behind_less k ps in omega (arith, a, b)

-- a slice of good posts
pub all_drop : (n i : ℕ) (ps : List Post) → All (IsGoodPost n) ps → All (IsGoodPost n) (drop i ps)
all_drop n zero ps all = all
all_drop n (suc i) [] all = all
all_drop n (suc i) (p ∷ ps) all = all_drop n i ps (λ k d lt. all (suc k) d (omega arith))

all_take : (n i : ℕ) (ps : List Post) → All (IsGoodPost n) ps → All (IsGoodPost n) (take i ps)
all_take n zero ps all = λ k d lt. absurd (omega arith)
all_take n (suc i) [] all = all
all_take n (suc i) (p ∷ ps) all =
    All-cons (IsGoodPost n) p (take i ps) (all 0 p (omega arith))
    (all_take n i ps (λ k d lt. all (suc k) d (omega arith)))

take_few : (i : ℕ) (ps : List Post) → length (take i ps) ≤ i
take_few zero ps = omega arith
take_few (suc i) [] = omega arith
take_few (suc i) (p ∷ ps) = let r = take_few i ps in omega (arith, r)

take_whole : (ps : List Post) → take (length ps) ps ≡ ps
take_whole [] = refl
take_whole (p ∷ ps) = ap (λ (l : List Post). p ∷ l) (take_whole ps)

-- a slice up to the end
rest_slice : (i : ℕ) (ps : List Post) → take (length ps - i) (drop i ps) ≡ drop i ps
rest_slice zero ps = let e : length ps - 0 ≡ length ps = omega arith in ap (λ (k : ℕ). take k ps) e ∙ take_whole ps
rest_slice (suc i) [] = let e : 0 - suc i ≡ 0 = omega arith in ap (λ (k : ℕ). take k (drop (suc i) [])) e
rest_slice (suc i) (p ∷ ps) = let e : length (p ∷ ps) - suc i ≡ length ps - i = omega arith in
    ap (λ (k : ℕ). take k (drop i ps)) e ∙ rest_slice i ps

-- the sample that waits behind the first posts, where these are counted, and behind the others
pub first_wait : (w k n x : ℕ) (ps : List Post) → n ≡ length (up_to k ps) → x ≡ waiting w (take n ps)
    → x ≡ waiting w (up_to k ps)
first_wait w k n x ps count is = is ∙ ap (waiting w) (ap (λ (j : ℕ). take j ps) count ∙ first_posts k ps)

pub wait_behind : (k n x : ℕ) (ps : List Post) → n ≡ length (up_to k ps)
    → x ≡ waiting 0 (take (length ps - n) (drop n ps)) → x ≡ waiting 0 (behind k ps)
wait_behind k n x ps count is =
    is ∙ ap (waiting 0) (rest_slice n ps ∙ ap (λ (j : ℕ). drop j ps) count ∙ posts_behind k ps)

-- behind the first posts one of n samples waits, where one did before
pub first_is_one : (n w k x : ℕ) (ps : List Post) → (w ≡ 0 → ⊥) → w ≤ n → All (IsGoodPost n) ps
    → x ≡ waiting w (up_to k ps) → (1 ≤ x) × (x ≤ n)
first_is_one n w k x ps waits within good is = (
  subst (λ (j : ℕ). 1 ≤ j) (sym is) (waits_some w (up_to k ps) (omega (arith, waits))),
  subst (λ (j : ℕ). j ≤ n) (sym is) (first_within n w k ps within good),
)

-- behind all of them, or the others, it is one of these or none, and none where there are no posts
pub few_wait : (n x : ℕ) (ps : List Post) → All (IsGoodPost n) ps → x ≡ waiting 0 ps
    → (x ≤ n) × (min x 1 ≤ length ps)
few_wait n x ps good is =
    let few = waits_few 0 ps in (
      subst (λ (j : ℕ). j ≤ n) (sym is) (waits_within n 0 ps (omega arith) good),
      subst (λ (j : ℕ). min j 1 ≤ length ps) (sym is) (omega (arith, few)),
    )

pub few_wait_behind : (n k x : ℕ) (ps : List Post) → All (IsGoodPost n) ps → x ≡ waiting 0 (behind k ps)
    → (x ≤ n) × (min x 1 ≤ length ps)
few_wait_behind n k x ps good is = (
  subst (λ (j : ℕ). j ≤ n) (sym is) (behind_waits_within n k ps good),
  subst (λ (j : ℕ). min j 1 ≤ length ps) (sym is) (behind_few k ps),
)

-- behind a slice of posts one of n samples waits or none, and none where none did before and the slice is empty
pub wait_taken : (n w x i j : ℕ) (posts : List Post) → w ≤ n → All (IsGoodPost n) posts → i ≤ j
    → x ≡ waiting w (take (j - i) (drop i posts)) → (x ≤ n) × (min x 1 + i ≤ min w 1 + j)
wait_taken n w x i j posts within good le is =
    let slice : List Post = take (j - i) (drop i posts) in
    let few = waits_few w slice in
    let short = take_few (j - i) (drop i posts) in (
      subst (λ (k : ℕ). k ≤ n) (sym is)
          (waits_within n w slice within (all_take n (j - i) (drop i posts) (all_drop n i posts good))),
      subst (λ (k : ℕ). min k 1 + i ≤ min w 1 + j) (sym is) (omega (arith, few, short, le)),
    )

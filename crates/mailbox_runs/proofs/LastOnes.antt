-- The sample that is posted last is answered last, and each post is taken once.
use Rattle.mailbox_runs.proofs.Words.{[], ◌++◌, ◌+◌, ◌-◌, ◌==◌, ◌∙◌, ◌∷◌, ◌≡◌, ◌≢◌, ◌≤◌, ◌⊎◌, answers, ap, append-nil}
use Rattle.mailbox_runs.proofs.Words.{append_assoc, ap₂, AreTurns, arith, behind, Bool, false, idle, if◌then◌else◌}
use Rattle.mailbox_runs.proofs.Words.{inl, inr, List, map, map-append, nat_le, nat_tests, over, Post, refl}
use Rattle.mailbox_runs.proofs.Words.{samples_of, suc, sym, taken_from, true, Turn, up_to, waiting, zero, ℕ}
use Rattle.std.specs.{Prelude.flat_map}
use Rattle.mailbox_runs.specs.{Turns.LastIsAnswered, Turns.AllAreTaken}
use Rattle.mailbox_runs.proofs.{Postings.waits_some, OneList.answering}

split_by : (b : Bool) (k : ℕ) (p : Post) (ps : List Post) → nat_le p.moment k ≡ b → up_to k ps ++ behind k ps ≡ ps
    → up_to k (p ∷ ps) ++ behind k (p ∷ ps) ≡ p ∷ ps
split_by true k p ps e r = rw e (ap (λ (l : List Post). p ∷ l) r)
split_by false k p ps e r = rw e refl

pub split : (k : ℕ) (ps : List Post) → up_to k ps ++ behind k ps ≡ ps
split k [] = refl
split k (p ∷ ps) = split_by (nat_le p.moment k) k p ps refl (split k ps)

pub waiting_append : (w : ℕ) (xs ys : List Post) → waiting w (xs ++ ys) ≡ waiting (waiting w xs) ys
waiting_append w [] ys = refl
waiting_append w (x ∷ xs) ys = waiting_append (if x.sample == 0 then w else x.sample) xs ys

-- which sample waits behind posts, by those up to a moment and those behind them
pub waiting_split : (w k : ℕ) (ps : List Post) → waiting (waiting w (up_to k ps)) (behind k ps) ≡ waiting w ps
waiting_split w k ps = sym (waiting_append w (up_to k ps) (behind k ps)) ∙ ap (waiting w) (split k ps)

pub zero_or : (n : ℕ) → (n ≡ 0) ⊎ (1 ≤ n)
zero_or zero = inl refl
zero_or (suc n) = inr (omega arith)

pub not_zero : (n : ℕ) → n ≢ 0 → 1 ≤ n
not_zero zero h = absurd (h refl)
not_zero (suc n) h = omega arith

picked_none : (b : Bool) (w k : ℕ) (xs : List Post) → (k == 0) ≡ b → (waiting 0 xs ≡ 0 → waiting w xs ≡ w)
    → waiting (if b then 0 else k) xs ≡ 0 → waiting (if b then w else k) xs ≡ w
picked_none true w k xs e r z = r z
picked_none false w k xs e r z =
    (let some : 1 ≤ k = grind (arith, nat_tests) in let h = waits_some k xs some in absurd (omega (arith, h, z)))

-- where posts put no sample, that before waits
pub none_put : (w : ℕ) (xs : List Post) → waiting 0 xs ≡ 0 → waiting w xs ≡ w
none_put w [] z = refl
none_put w (x ∷ xs) z = picked_none (x.sample == 0) w x.sample xs refl (none_put w xs) z

picked_some : (b : Bool) (w k : ℕ) (xs : List Post) → (1 ≤ waiting 0 xs → waiting w xs ≡ waiting 0 xs)
    → 1 ≤ waiting (if b then 0 else k) xs → waiting (if b then w else k) xs ≡ waiting (if b then 0 else k) xs
picked_some true w k xs r h = r h
picked_some false w k xs r h = refl

-- else it is as if none had waited
pub some_put : (w : ℕ) (xs : List Post) → 1 ≤ waiting 0 xs → waiting w xs ≡ waiting 0 xs
some_put w [] h = absurd (omega arith)
some_put w (x ∷ xs) h = picked_some (x.sample == 0) w x.sample xs (some_put w xs) h

-- the posts up to a later moment
further_by : (b : Bool) (k j : ℕ) (p : Post) (ps : List Post) → nat_le p.moment k ≡ b → k ≤ j
    → up_to j ps ≡ up_to k ps ++ up_to j (behind k ps)
    → up_to j (p ∷ ps) ≡ up_to k (p ∷ ps) ++ up_to j (behind k (p ∷ ps))
further_by true k j p ps e le r =
    (let due : nat_le p.moment j ≡ true = grind (arith, nat_tests) in rw e (rw due (ap (λ (l : List Post). p ∷ l) r)))
further_by false k j p ps e le r = rw e refl

pub further : (k j : ℕ) (ps : List Post) → k ≤ j → up_to j ps ≡ up_to k ps ++ up_to j (behind k ps)
further k j [] le = refl
further k j (p ∷ ps) le = further_by (nat_le p.moment k) k j p ps refl le (further k j ps le)

-- where a sample waits when a turn begins, one is answered
pub some_answered : (w g s : ℕ) (posts : List Post) → waiting w (up_to g posts) ≢ 0
    → s ≡ waiting w (up_to (g + 2) posts) → 1 ≤ s
some_answered w g s posts waits s_is =
    let first = waiting w (up_to g posts) in
    let later = up_to (g + 2) (behind g posts) in
    let e : s ≡ waiting first later = s_is ∙ ap (waiting w) (further g (g + 2) posts (omega arith))
    ∙ waiting_append w (up_to g posts) later in
    let h = waits_some first later (not_zero first waits) in
    omega (arith, e, h)

-- what turns answer, where the first of them answers
pub answers_first : (t : Turn) (ts : List Turn) → 1 ≤ t.sample → samples_of (t ∷ ts) ≡ t.sample ∷ samples_of ts
answers_first t ts h = (let e : (t.sample == 0) ≡ false = grind (arith, nat_tests) in rw e refl)

-- where none waits behind all posts, none is answered
none_answered : (n : ℕ) (steps : List ℕ → ℕ) (g w : ℕ) (done : List ℕ) (posts : List Post) (turns : List Turn)
    → AreTurns n steps g w done posts turns → waiting w posts ≡ 0 → samples_of turns ≡ []
none_answered n steps g w done posts turns (over g1 w1 d1 p1 t1 none left is) z = ap samples_of is
none_answered n steps g w done posts turns (idle g1 w1 d1 p1 t1 l1 none some rest is) z =
    ap samples_of is
    ∙ none_answered n steps (g + 2) (waiting w (up_to (g + 1) posts)) done (behind (g + 1) posts) l1 rest
    (waiting_split w (g + 1) posts ∙ z)
none_answered n steps g w done posts turns (answers g1 w1 d1 p1 t1 l1 s1 e1 waits s_is end_is rest is) z =
    let h = waits_some (waiting w (up_to g posts)) (behind g posts) (not_zero (waiting w (up_to g posts)) waits) in
    let k = waiting_split w g posts in
    absurd (omega (arith, h, k, z))

pub last_is_answered : LastIsAnswered
last_is_answered n steps g w done posts turns (over g1 w1 d1 p1 t1 none left is) some =
    absurd (some (sym (waiting_split w g posts) ∙ ap₂ (λ (v : ℕ) (l : List Post). waiting v l) none left))
last_is_answered n steps g w done posts turns (idle g1 w1 d1 p1 t1 l1 none left rest is) some =
    let same = waiting_split w (g + 1) posts in
    let r = last_is_answered n steps (g + 2) (waiting w (up_to (g + 1) posts)) done (behind (g + 1) posts) l1 rest
    (λ z. some (sym same ∙ z)) in
    (r.0, ap samples_of is ∙ r.1 ∙ ap (λ (k : ℕ). r.0 ++ k ∷ []) same)
last_is_answered n steps g w done posts turns (answers g1 w1 d1 p1 t1 l1 s1 e1 waits s_is end_is rest is) some =
    let late = behind (g + 2) posts in
    let w2 = waiting 0 (up_to (e1 - 1) late) in
    let posts2 = behind (e1 - 1) late in
    let same : waiting w2 posts2 ≡ waiting 0 late = waiting_split 0 (e1 - 1) late in
    let whole : waiting w posts ≡ waiting s1 late = sym (waiting_split w (g + 2) posts)
    ∙ ap (λ (k : ℕ). waiting k late) (sym s_is) in
    let first : samples_of turns ≡ s1 ∷ samples_of l1 =
    ap samples_of is ∙ answers_first (answering n g e1 s1 steps done posts) l1
    (some_answered w g s1 posts waits s_is) in
    elim (zero_or (waiting 0 late)) [
      | inl z ↦
          let r = none_answered n steps e1 w2 (done ++ s1 ∷ []) posts2 l1 rest (same ∙ z) in
          let is : waiting w posts ≡ s1 = whole ∙ none_put s1 late z in
          ([], first ∙ ap₂ (λ (k : ℕ) (l : List ℕ). k ∷ l) (sym is) r)
      | inr h ↦
          let is : waiting w2 posts2 ≡ waiting w posts = same ∙ sym (whole ∙ some_put s1 late h) in
          let r = last_is_answered n steps e1 w2 (done ++ s1 ∷ []) posts2 l1 rest (λ z. some (sym is ∙ z)) in
          (s1 ∷ r.0, first ∙ ap (λ (l : List ℕ). s1 ∷ l) (r.1 ∙ ap (λ (k : ℕ). r.0 ++ k ∷ []) is))
    ]

-- posts with their boundaries
posts_of : List (ℕ × Post) → List Post
posts_of ts = map (λ (t : ℕ × Post). t.1) ts

posts_from : (m : ℕ) (ps : List Post) → posts_of (taken_from m ps) ≡ ps
unfolding posts_of
posts_from m [] = refl
posts_from m (p ∷ ps) = ap (λ (l : List Post). p ∷ l) (posts_from m ps)

abbrev all_taken : List Turn → List Post
all_taken turns = flat_map (λ (t : Turn). map (λ (p : ℕ × Post). p.1) t.taken) turns

pub all_are_taken : AllAreTaken
unfolding posts_of
all_are_taken n steps g w done posts turns (over g1 w1 d1 p1 t1 none left is) =
    let e : flat_map (λ (t : Turn). map (λ (p : ℕ × Post). p.1) t.taken) turns ≡ posts_of (taken_from g posts) ++ [] =
    ap all_taken is in
    e ∙ append-nil (posts_of (taken_from g posts)) ∙ posts_from g posts
all_are_taken n steps g w done posts turns (idle g1 w1 d1 p1 t1 l1 none some rest is) =
    let r = all_are_taken n steps (g + 2) (waiting w (up_to (g + 1) posts)) done (behind (g + 1) posts) l1 rest in
    ap all_taken is ∙ ap₂ (λ (xs ys : List Post). xs ++ ys) (posts_from g (up_to (g + 1) posts)) r ∙ split (g + 1) posts
all_are_taken n steps g w done posts turns (answers g1 w1 d1 p1 t1 l1 s1 e1 waits s_is end_is rest is) =
    let late = behind (g + 2) posts in
    let r = all_are_taken n steps e1 (waiting 0 (up_to (e1 - 1) late)) (done ++ s1 ∷ [])
    (behind (e1 - 1) late) l1 rest in
    let early = taken_from g (up_to (g + 2) posts) in
    let middle = taken_from (g + 5 + n) (up_to (e1 - 1) late) in
    ap all_taken is
    ∙ ap (λ (xs : List Post). xs ++ all_taken l1) (map-append (λ (t : ℕ × Post). t.1) early middle)
    ∙ append_assoc (posts_of early) (posts_of middle) (all_taken l1)
    ∙ ap₂ (λ (xs ys : List Post). xs ++ ys) (posts_from g (up_to (g + 2) posts))
    (ap₂ (λ (xs ys : List Post). xs ++ ys) (posts_from (g + 5 + n) (up_to (e1 - 1) late)) r ∙ split (e1 - 1) late)
    ∙ split (g + 2) posts

-- What is expected of the posts of a turn, boundary by boundary.
use Rattle.mailbox_runs.proofs.Words.{[], ◌&&◌, ◌++◌, ◌+◌, ◌-◌, ◌<◌, ◌||◌, ◌∙◌, ◌∷◌, ◌≡◌, ◌≤◌, AllGood, ap, ap₂}
use Rattle.mailbox_runs.proofs.Words.{arith, Ascend, behind, Bool, false, frames_after, frames_from, FrameSeen, Free}
use Rattle.mailbox_runs.proofs.Words.{has_moment, if◌then◌else◌, is_inside, is_new, List, map, max, nat_le, nat_lt}
use Rattle.mailbox_runs.proofs.Words.{nat_tests, None, one_if, Option, plain_frame, Post, refl, resumed_of, Some}
use Rattle.mailbox_runs.proofs.Words.{State, suc, taken_from, true, uninterrupted, up_to, zero, ℕ}
use Rattle.run_law.specs.Uninterrupted.{taken_before, left_from, expected_frame}
use Rattle.cpu12_emul.specs.Take.{frame_on}
use Rattle.std.specs.{Prelude.◌==◌}

-- ---- posts that ascend

abbrev pub moment_of : Post → ℕ
moment_of p = p.moment

abbrev pub Rise : ℕ → List Post → Type 0
Rise = Ascend moment_of

rise_by : (b : Bool) (k j : ℕ) (p : Post) (ps : List Post) → nat_le p.moment j ≡ b → k ≤ p.moment → Rise p.moment ps
    → Rise (suc j) (behind j ps) → Rise (suc j) (behind j (p ∷ ps))
rise_by true k j p ps e lo r rest = rw e rest
rise_by false k j p ps e lo r rest = rw e (let past : suc j ≤ p.moment = grind (arith, nat_tests) in (past, r))

pub rise_behind : (k j : ℕ) (ps : List Post) → Rise k ps → Rise (suc j) (behind j ps)
rise_behind k j [] r = tt
rise_behind k j (p ∷ ps) r = rise_by (nat_le p.moment j) k j p ps refl r.0 r.1 (rise_behind p.moment j ps r.1)

-- what is taken before a boundary is what comes by the moment before it
none_before : (at : Post → ℕ) (n e k : ℕ) (ps : List Post) → AllGood (λ p. e < p.moment → n ≤ at p) ps → e < k
    → Rise k ps → (taken_before at n ps ≡ []) × (left_from at n ps ≡ ps)
none_before at n e k [] h lt r = (refl, refl)
none_before at n e k (p ∷ ps) h lt r =
    let late : n ≤ at p = h.0 (omega (arith, lt, r.0)) in
    let t : nat_lt (at p) n ≡ false = grind (arith, nat_tests) in
    let rest = none_before at n e p.moment ps h.1 (omega (arith, lt, r.0)) r.1 in
    (rw t rest.0, rw t (ap (λ (xs : List Post). p ∷ xs) rest.1))

pub record Splits (at : Post → ℕ) (n e : ℕ) (ps : List Post) : Type 0 where
  pub taken : taken_before at n ps ≡ up_to e ps
  pub left : left_from at n ps ≡ behind e ps

splits_by : (b : Bool) (at : Post → ℕ) (n e k : ℕ) (p : Post) (ps : List Post) → nat_le p.moment e ≡ b
    → (p.moment ≤ e → at p < n) → (e < p.moment → n ≤ at p)
    → AllGood (λ q. e < q.moment → n ≤ at q) ps → Rise p.moment ps → Splits at n e ps → Splits at n e (p ∷ ps)
splits_by true at n e k p ps is early late later r rest =
    let due : p.moment ≤ e = grind (arith, nat_tests) in
    let soon = early due in
    let t : nat_lt (at p) n ≡ true = grind (arith, nat_tests) in
    record { taken = rw (t, is) (ap (λ (xs : List Post). p ∷ xs) rest.taken); left = rw (t, is) rest.left }
splits_by false at n e k p ps is early late later r rest =
    let past : e < p.moment = grind (arith, nat_tests) in
    let far = late past in
    let t : nat_lt (at p) n ≡ false = grind (arith, nat_tests) in
    let none = none_before at n e p.moment ps later past r in
    record { taken = rw (t, is) none.0; left = rw (t, is) (ap (λ (xs : List Post). p ∷ xs) none.1) }

late_of : (at : Post → ℕ) (n e : ℕ) (ps : List Post)
    → AllGood (λ q. (q.moment ≤ e → at q < n) × (e < q.moment → n ≤ at q)) ps
    → AllGood (λ q. e < q.moment → n ≤ at q) ps
late_of at n e [] h = tt
late_of at n e (p ∷ ps) h = (h.0.1, late_of at n e ps h.1)

pub splits : (at : Post → ℕ) (n e k : ℕ) (ps : List Post)
    → AllGood (λ q. (q.moment ≤ e → at q < n) × (e < q.moment → n ≤ at q)) ps → Rise k ps → Splits at n e ps
splits at n e k [] h r = record { taken = refl; left = refl }
splits at n e k (p ∷ ps) h r =
    splits_by (nat_le p.moment e) at n e k p ps refl h.0.0 h.0.1 (late_of at n e ps h.1) r.1
    (splits at n e p.moment ps h.1 r.1)

-- ---- frames

expected_free : (first : Bool) (s : State) → s.temps ≡ Free → expected_frame first s ≡ plain_frame s.regs
expected_free first s e = ap (frame_on first s) e

abbrev pub last_before : ℕ → Option ℕ → List Post → Option ℕ
last_before j before [] = before
last_before j before (p ∷ ps) = last_before j (Some j) ps

-- posts that are taken at one boundary, where no sums run
pub frames_at : (flags g j : ℕ) (u x : State) (ps : List Post) (before : Option ℕ) (rest : List (ℕ × Post))
    → AllGood (λ p. max g p.moment ≡ g + j) ps
    → uninterrupted flags j u ≡ x → x.temps ≡ Free
    → frames_from g (frames_after flags (λ p. p.0 - g) u before (taken_from g ps ++ rest))
    ≡ map (λ p. (g + j, plain_frame x.regs)) ps
    ++ frames_from g (frames_after flags (λ p. p.0 - g) u (last_before j before ps) rest)
frames_at flags g j u x [] before rest h is free = refl
frames_at flags g j u x (p ∷ ps) before rest h is free =
    let e : max g p.moment - g ≡ j = (let z = h.0 in omega arith) in
    let head : expected_frame (is_new before (max g p.moment - g)) (uninterrupted flags (max g p.moment - g) u)
    ≡ plain_frame x.regs =
    ap (λ (k : ℕ). expected_frame (is_new before k) (uninterrupted flags k u)) e
    ∙ ap (expected_frame (is_new before j)) is ∙ expected_free (is_new before j) x free in
    ap₂ (λ (k : ℕ) (fr : FrameSeen). (g + k, fr)
    ∷ frames_from g (frames_after flags (λ q. q.0 - g) u (Some k) (taken_from g ps ++ rest))) e head
    ∙ ap (λ (l : List (ℕ × FrameSeen)). (g + j, plain_frame x.regs) ∷ l)
    (frames_at flags g j u x ps (Some j) rest h.1 is free)

-- posts behind the copy
frames_rest : (flags g c : ℕ) (u : State) (at : Post → ℕ) (ps : List Post) (before : Option ℕ)
    → AllGood (λ p. max c p.moment - g ≡ at p) ps
    → frames_after flags (λ p. p.0 - g) u before (taken_from c ps) ≡ frames_after flags at u before ps
frames_rest flags g c u at [] before h = refl
frames_rest flags g c u at (p ∷ ps) before h =
    ap (λ (k : ℕ). (k, expected_frame (is_new before k) (uninterrupted flags k u)) ∷ frames_after flags (λ q. q.0 - g) u
    (Some k) (taken_from c ps)) h.0
    ∙ ap (λ (l : List (ℕ × FrameSeen)). (at p, expected_frame (is_new before (at p)) (uninterrupted flags (at p) u))
    ∷ l) (frames_rest flags g c u at ps (Some (at p)) h.1)

fresh_after : (flags : ℕ) (u : State) (at : Post → ℕ) (ps : List Post) (a b : Option ℕ)
    → AllGood (λ p. is_new a (at p) ≡ is_new b (at p)) ps
    → frames_after flags at u a ps ≡ frames_after flags at u b ps
fresh_after flags u at [] a b h = refl
fresh_after flags u at (p ∷ ps) a b h =
    ap (λ (x : Bool). (at p, expected_frame x (uninterrupted flags (at p) u))
    ∷ frames_after flags at u (Some (at p)) ps) h.0

pub frames_behind : (flags g c : ℕ) (u : State) (at : Post → ℕ) (ps : List Post) (before : Option ℕ)
    → AllGood (λ p. max c p.moment - g ≡ at p) ps
    → AllGood (λ p. is_new before (at p) ≡ true) ps
    → frames_after flags (λ p. p.0 - g) u before (taken_from c ps) ≡ frames_after flags at u None ps
frames_behind flags g c u at ps before h new = frames_rest flags g c u at ps before h
    ∙ fresh_after flags u at ps before None new

-- ---- resumed boundaries

pub has_on : {A : Type 0} (moment : A → ℕ) (m : ℕ) (xs ys : List A)
    → has_moment moment m (xs ++ ys) ≡ (has_moment moment m xs || has_moment moment m ys)
has_on moment m [] ys = refl
has_on {A = A} moment m (x ∷ xs) ys = ap (λ (b : Bool). (moment x == m) || b) (has_on moment m xs ys)
    ∙ or_assoc (moment x == m) (has_moment moment m xs) (has_moment moment m ys)
  where
    or_assoc : (a b c : Bool) → (a || (b || c)) ≡ ((a || b) || c)
    or_assoc true b c = refl
    or_assoc false b c = refl

pub resumed_same : {A B : Type 0} (flags : ℕ) (u : State) (a : A → ℕ) (b : B → ℕ) (xs : List A) (ys : List B) (n : ℕ)
    → ((m : ℕ) → m < n → is_inside flags u m ≡ true → has_moment a m xs ≡ has_moment b m ys)
    → resumed_of flags a u xs n ≡ resumed_of flags b u ys n
resumed_same flags u a b xs ys zero h = refl
resumed_same flags u a b xs ys (suc n) h =
    ap₂ (λ (k j : ℕ). k + j) (resumed_same flags u a b xs ys n (λ m lt i. h m (omega arith) i))
    (by (is_inside flags u n) refl)
  where
    by : (i : Bool) → is_inside flags u n ≡ i
        → one_if (is_inside flags u n && has_moment a n xs) ≡ one_if (is_inside flags u n && has_moment b n ys)
    by true e = ap (λ (x : Bool). one_if (is_inside flags u n && x)) (h n (omega arith) e)
    by false e = rw e refl

-- ---- posts up to a moment, and those behind

up_by : (b : Bool) (k j : ℕ) (p : Post) (ps : List Post) → nat_le p.moment j ≡ b → j ≤ k
    → up_to j (up_to k ps) ≡ up_to j ps → up_to j (up_to k (p ∷ ps)) ≡ up_to j (p ∷ ps)
up_by true k j p ps e le r =
    (let due : nat_le p.moment k ≡ true = grind (arith, nat_tests) in rw (due, e) (ap (λ (xs : List Post). p ∷ xs) r))
up_by false k j p ps e le r = rw e (late (nat_le p.moment k))
  where
    late : (c : Bool) → up_to j (if c then p ∷ up_to k ps else []) ≡ []
    late true = rw e refl
    late false = refl

pub up_up : (k j : ℕ) (ps : List Post) → j ≤ k → up_to j (up_to k ps) ≡ up_to j ps
up_up k j [] le = refl
up_up k j (p ∷ ps) le = up_by (nat_le p.moment j) k j p ps refl le (up_up k j ps le)

behind_up_by : (b : Bool) (k j : ℕ) (p : Post) (ps : List Post) → nat_le p.moment j ≡ b → j ≤ k
    → behind j (up_to k ps) ≡ up_to k (behind j ps) → behind j (up_to k (p ∷ ps)) ≡ up_to k (behind j (p ∷ ps))
behind_up_by true k j p ps e le r = (let due : nat_le p.moment k ≡ true = grind (arith, nat_tests) in rw (due, e) r)
behind_up_by false k j p ps e le r = rw e (late (nat_le p.moment k) refl)
  where
    late : (c : Bool) → nat_le p.moment k ≡ c → behind j (if c then p ∷ up_to k ps else []) ≡ up_to k (p ∷ ps)
    late true d = rw (e, d) refl
    late false d = rw d refl

pub behind_up : (k j : ℕ) (ps : List Post) → j ≤ k → behind j (up_to k ps) ≡ up_to k (behind j ps)
behind_up k j [] le = refl
behind_up k j (p ∷ ps) le = behind_up_by (nat_le p.moment j) k j p ps refl le (behind_up k j ps le)

behind_by : (b : Bool) (k j : ℕ) (p : Post) (ps : List Post) → nat_le p.moment k ≡ b → k ≤ j
    → behind j (behind k ps) ≡ behind j ps → behind j (behind k (p ∷ ps)) ≡ behind j (p ∷ ps)
behind_by true k j p ps e le r = (let due : nat_le p.moment j ≡ true = grind (arith, nat_tests) in rw (e, due) r)
behind_by false k j p ps e le r = rw e refl

pub behind_behind : (k j : ℕ) (ps : List Post) → k ≤ j → behind j (behind k ps) ≡ behind j ps
behind_behind k j [] le = refl
behind_behind k j (p ∷ ps) le = behind_by (nat_le p.moment k) k j p ps refl le (behind_behind k j ps le)

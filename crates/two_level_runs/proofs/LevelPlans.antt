-- Good levels are good requests that write nothing, and each sample's are in order.
use Rattle.two_level_runs.proofs.Words.{[], ◌==◌, ◌∙◌, ◌∷◌, ◌≡◌, All, All-cons, AllGood, ap, ap₂, AreGoodLevels}
use Rattle.two_level_runs.proofs.Words.{arith, Ascend, Bool, expected_frame, false, frames_after, frames_of}
use Rattle.two_level_runs.proofs.Words.{FrameSeen, if◌then◌else◌, is_new, IsGoodLevel, length-map, Level}
use Rattle.two_level_runs.proofs.Words.{LevelNotAfter, levels_of, List, map, nat_lt, None, Option, plan_of, refl}
use Rattle.two_level_runs.proofs.Words.{Request, request_of, requests_of, RequestsAreGood, resumed_of, Some, State}
use Rattle.two_level_runs.proofs.Words.{subst, suc, taken_before, true, uninterrupted, zero, ℕ}
use Rattle.std.specs.Prelude.{◌&&◌, ◌||◌, ◌+◌, filter}
use Rattle.std.proofs.{Common.cond}
use Rattle.run_law.specs.{Forms.one_if, Uninterrupted.is_inside, Uninterrupted.has_moment}
use Rattle.interrupt_plan.specs.Plans as plans
use Rattle.interrupt_plan.specs.Rows as rows
use Rattle.interrupt_plan.specs.Plans.{IsGoodRequest, IsGood}

-- those of a list that pass a test
filter_each : {A B : Type 0} (p : B → Bool) (g : A → B) (xs : List A)
    → filter p (map g xs) ≡ map g (filter (λ x. p (g x)) xs)
filter_each p g [] = refl
filter_each {A} {B} p g (x ∷ xs) = by (p (g x)) (filter_each p g xs)
  where
    by : (t : Bool) → filter p (map g xs) ≡ map g (filter (λ y. p (g y)) xs)
        → cond t (g x ∷ filter p (map g xs)) (filter p (map g xs))
        ≡ map g (cond t (x ∷ filter (λ y. p (g y)) xs) (filter (λ y. p (g y)) xs))
    by true rest = ap (λ (ys : List B). g x ∷ ys) rest
    by false rest = rest

all_passing : {A : Type 0} (P : A → Type 0) (p : A → Bool) (xs : List A) → All P xs → AllGood P (filter p xs)
all_passing P p [] h = tt
all_passing {A} P p (x ∷ xs) h = by (p x) (all_passing P p xs (λ k d l. h (suc k) d (omega arith)))
  where
    by : (t : Bool) → AllGood P (filter p xs) → AllGood P (cond t (x ∷ filter p xs) (filter p xs))
    by true rest = (h 0 x (omega arith), rest)
    by false rest = rest

ascend_each : {A B : Type 0} (moment : B → ℕ) (g : A → B) (m : ℕ) (xs : List A) → Ascend moment m (map g xs)
    → Ascend (λ x. moment (g x)) m xs
ascend_each moment g m [] h = tt
ascend_each moment g m (x ∷ xs) h = (h.0, ascend_each moment g (moment (g x)) xs h.1)

-- the plan of good levels is good
good_request : (fast : ℕ) (l : Level) → IsGoodLevel fast l → IsGoodRequest (request_of l)
good_request fast l h = record {
  sample_from = h.sample_from;
  sample_to = h.sample_to;
  moment_to = h.moment_to;
  few_writes = omega arith;
  free = λ k d l. absurd (omega arith);
}

all_good : (fast : ℕ) (levels : List Level) → All (IsGoodLevel fast) levels → All IsGoodRequest (plan_of levels)
all_good fast [] h = λ k d l. absurd (omega arith)
all_good fast (l ∷ levels) h =
    All-cons IsGoodRequest (request_of l) (plan_of levels) (good_request fast l (h 0 l (omega arith)))
    (all_good fast levels (λ k d lt. h (suc k) d (omega arith)))

ascends : (levels : List Level) → rows.Ascend LevelNotAfter levels → plans.Ascends (plan_of levels)
ascends [] h = tt
ascends (a ∷ []) h = tt
ascends (a ∷ (b ∷ rest)) h = (h.0, ascends (b ∷ rest) h.1)

pub plan_good : (fast : ℕ) (levels : List Level) → AreGoodLevels fast levels → IsGood (plan_of levels)
plan_good fast levels h = record {
  few = (let e = length-map levels request_of in omega (arith, e, h.few));
  requests = all_good fast levels h.each;
  ascends = ascends levels h.ascends;
}

-- its requests of a sample are those of the levels
pub requests_are : (k : ℕ) (levels : List Level) → requests_of k (plan_of levels) ≡ map request_of (levels_of k levels)
requests_are k levels = filter_each (λ r. r.sample == k) request_of levels

pub levels_are_good : RequestsAreGood → (fast : ℕ) (levels : List Level) → AreGoodLevels fast levels → (k : ℕ)
    → AllGood (IsGoodLevel fast) (levels_of k levels) × Ascend (λ (l : Level). l.moment) 0 (levels_of k levels)
levels_are_good law fast levels h k = (
  all_passing (IsGoodLevel fast) (λ l. l.sample == k) levels h.each,
  ascend_each (λ (r : Request). r.moment) request_of 0 (levels_of k levels)
      (subst (λ (rs : List Request). Ascend (λ (r : Request). r.moment) 0 rs) (requests_are k levels)
      (law (plan_of levels) (plan_good fast levels h) k).1),
)

-- what is taken, resumed and pushed for them is what is for the levels
taken_each : {A B : Type 0} (moment : B → ℕ) (g : A → B) (n : ℕ) (xs : List A)
    → taken_before moment n (map g xs) ≡ map g (taken_before (λ x. moment (g x)) n xs)
taken_each moment g n [] = refl
taken_each {A} {B} moment g n (x ∷ xs) = by (nat_lt (moment (g x)) n) (taken_each moment g n xs)
  where
    by : (t : Bool) → taken_before moment n (map g xs) ≡ map g (taken_before (λ x. moment (g x)) n xs)
        → (if t then g x ∷ taken_before moment n (map g xs) else taken_before moment n (map g xs))
        ≡ map g (if t then x ∷ taken_before (λ x. moment (g x)) n xs else taken_before (λ x. moment (g x)) n xs)
    by true rest = ap (λ (ys : List B). g x ∷ ys) rest
    by false rest = rest

has_each : {A B : Type 0} (moment : B → ℕ) (g : A → B) (m : ℕ) (xs : List A)
    → has_moment moment m (map g xs) ≡ has_moment (λ x. moment (g x)) m xs
has_each moment g m [] = refl
has_each moment g m (x ∷ xs) = ap (λ (t : Bool). (moment (g x) == m) || t) (has_each moment g m xs)

pub resumed_each : {A B : Type 0} (flags : ℕ) (moment : B → ℕ) (g : A → B) (s : State) (xs : List A) (n : ℕ)
    → resumed_of flags moment s (map g xs) n ≡ resumed_of flags (λ x. moment (g x)) s xs n
resumed_each flags moment g s xs zero = refl
resumed_each flags moment g s xs (suc n) =
    ap₂ (λ (a : ℕ) (t : Bool). a + one_if (is_inside flags s n && t)) (resumed_each flags moment g s xs n)
    (has_each moment g n xs)

frames_each : {A B : Type 0} (flags : ℕ) (moment : B → ℕ) (g : A → B) (s : State) (before : Option ℕ) (xs : List A)
    → frames_after flags moment s before (map g xs) ≡ frames_after flags (λ x. moment (g x)) s before xs
frames_each flags moment g s before [] = refl
frames_each flags moment g s before (x ∷ xs) =
    ap (λ (fs : List (ℕ × FrameSeen)).
    (moment (g x), expected_frame (is_new before (moment (g x))) (uninterrupted flags (moment (g x)) s)) ∷ fs)
    (frames_each flags moment g s (Some (moment (g x))) xs)

pub frames_of_each : {A B : Type 0} (flags : ℕ) (moment : B → ℕ) (g : A → B) (s : State) (xs : List A) (n : ℕ)
    → frames_of flags moment s (map g xs) n ≡ frames_of flags (λ x. moment (g x)) s xs n
frames_of_each {A} {B} flags moment g s xs n =
    ap (λ (ys : List B). frames_after flags moment s None ys) (taken_each moment g n xs)
    ∙ frames_each flags moment g s None (taken_before (λ x. moment (g x)) n xs)

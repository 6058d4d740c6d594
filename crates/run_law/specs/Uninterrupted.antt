-- The run of a sample without interrupts, and what is expected of its run under requests.
-- Reached by the promise.
use Rattle.std.specs.Prelude.{ℕ, zero, suc, ◌+◌, ◌-◌, ◌==◌, ◌&&◌, ◌||◌, not, nat_lt, Bool, true, false, if◌then◌else◌}
use Rattle.std.specs.Prelude.{Result, Ok, Err, Option, Some, None, List, [], ◌∷◌}
use Rattle.cpu12_parts.specs.State.{State}
use Rattle.cpu12_emul.specs.declared.{ends.Stepped.Stepped, ends.Stepped.TheVariants.Plain}
use Rattle.cpu12_emul.specs.{Step.Next, Step.next_of, Step.is_part, Take.FrameSeen, Take.frame_on, Take.may_interrupt}
use Rattle.run_law.specs.Forms.{one_if}

-- the state after a step, which stays where none is defined, and the step's kind
abbrev pub state_by : State → Result Next ℕ → State
state_by s (Ok next) = next.state
state_by s (Err byte) = s

abbrev pub kind_by : Result Next ℕ → Stepped
kind_by (Ok next) = next.kind
kind_by (Err byte) = Plain

abbrev pub stepped : ℕ → State → State
stepped flags s = state_by s (next_of flags s)

abbrev pub kind_at : ℕ → State → Stepped
kind_at flags s = kind_by (next_of flags s)

-- the state at boundary m
abbrev pub uninterrupted : ℕ → ℕ → State → State
uninterrupted flags zero s = s
uninterrupted flags (suc m) s = uninterrupted flags m (stepped flags s)

-- how many of the first n steps are plain or last parts
abbrev pub counted : ℕ → ℕ → State → ℕ
counted flags zero s = 0
counted flags (suc n) s = one_if (not (is_part (kind_at flags s))) + counted flags n (stepped flags s)

-- whether the step that led to boundary m was a part and not the last
abbrev pub is_inside : ℕ → State → ℕ → Bool
is_inside flags s zero = false
is_inside flags s (suc j) = is_part (kind_at flags (uninterrupted flags j s))

-- the first of the boundaries m to m + k at which I is 0, or m + k
abbrev pub first_open : ℕ → State → ℕ → ℕ → ℕ
first_open flags s zero m = m
first_open flags s (suc k) m = if may_interrupt (uninterrupted flags m s) then m else first_open flags s k (suc m)

-- the boundary at which a request is taken: the least from its moment on at which I is 0 without interrupts, if one
-- comes before n
abbrev pub taken_at : {A : Type 0} → ℕ → (A → ℕ) → ℕ → State → A → ℕ
taken_at flags moment n s q = first_open flags s (n - moment q) (moment q)

-- a request is taken at this boundary
abbrev pub has_moment : {A : Type 0} → (A → ℕ) → ℕ → List A → Bool
has_moment moment m [] = false
has_moment moment m (q ∷ qs) = (moment q == m) || has_moment moment m qs

-- the requests that are taken before n, and those that are not
abbrev pub taken_before : {A : Type 0} → (A → ℕ) → ℕ → List A → List A
taken_before moment n [] = []
taken_before moment n (q ∷ qs) = if nat_lt (moment q) n then q ∷ taken_before moment n qs else taken_before moment n qs

abbrev pub left_from : {A : Type 0} → (A → ℕ) → ℕ → List A → List A
left_from moment n [] = []
left_from moment n (q ∷ qs) = if nat_lt (moment q) n then left_from moment n qs else q ∷ left_from moment n qs

-- how many boundaries below n are inside REV, REVW or WAV and have a request that is taken there
abbrev pub resumed_of : {A : Type 0} → ℕ → (A → ℕ) → State → List A → ℕ → ℕ
resumed_of flags moment s qs zero = 0
resumed_of flags moment s qs (suc n) =
    resumed_of flags moment s qs n + one_if (is_inside flags s n && has_moment moment n qs)

-- the frame that is expected in a state
abbrev pub expected_frame : Bool → State → FrameSeen
expected_frame first s = frame_on first s s.temps

-- whether a boundary is not the one before
abbrev pub is_new : Option ℕ → ℕ → Bool
is_new None m = true
is_new (Some k) m = not (k == m)

-- the frames of these requests, after one at that boundary
abbrev pub frames_after : {A : Type 0} → ℕ → (A → ℕ) → State → Option ℕ → List A → List (ℕ × FrameSeen)
frames_after flags moment s before [] = []
frames_after flags moment s before (q ∷ qs) =
    (moment q, expected_frame (is_new before (moment q)) (uninterrupted flags (moment q) s))
    ∷ frames_after flags moment s (Some (moment q)) qs

abbrev pub frames_of : {A : Type 0} → ℕ → (A → ℕ) → State → List A → ℕ → List (ℕ × FrameSeen)
frames_of flags moment s qs n = frames_after flags moment s None (taken_before moment n qs)
